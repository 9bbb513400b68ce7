-- The definitions of this crate.
pub mod Active
pub mod Completion
pub mod Longest
pub mod Machine
