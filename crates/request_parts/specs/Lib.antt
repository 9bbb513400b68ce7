-- The definitions of this crate.
pub mod Parts
pub mod Calls
pub mod Ticks
