-- Laws of the definitions of this crate.
pub mod Passes
pub mod Blocks
