-- The definitions of this crate.
pub mod Choices
pub mod Longest
pub mod Machine
pub mod Stands
pub mod Turns
