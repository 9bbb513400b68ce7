-- The definitions of this crate.
pub mod Breaks
pub mod Found
