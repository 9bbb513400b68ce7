-- Laws of the definitions of this crate.
pub mod Integers
pub mod Values
