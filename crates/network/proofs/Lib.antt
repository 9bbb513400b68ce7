-- Laws of the definitions of this crate.
pub mod Offsets
pub mod Checking
pub mod Borne
