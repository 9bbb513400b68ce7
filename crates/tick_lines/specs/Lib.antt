-- The definitions of this crate.
pub mod Lines
pub mod Rings
pub mod Inputs
