-- Laws of the definitions of this crate.
pub mod Chosen
pub mod Keeping
