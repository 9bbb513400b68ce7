-- The definitions of this crate.
pub mod Cases
pub mod Moves
pub mod Last
