-- Laws of the definitions of this crate.
pub mod Waits
pub mod Operations
