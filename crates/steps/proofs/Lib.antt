-- Laws of the definitions of this crate.
pub mod Kept
pub mod Last
pub mod Moves
pub mod Sets
pub mod Steps
pub mod Turns
