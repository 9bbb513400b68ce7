-- The definitions of this crate.
pub mod Clocks
pub mod Longest
