-- Laws of the definitions of this crate.
pub mod Chartered
pub mod Filling
pub mod Fixing
pub mod Naming
pub mod Placing
pub mod StateWalks
pub mod Underneath
