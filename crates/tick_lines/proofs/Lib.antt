-- Laws of the definitions of this crate.
pub mod Rings
pub mod Lines
pub mod Inputs
pub mod Words
