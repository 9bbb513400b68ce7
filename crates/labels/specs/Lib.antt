-- The definitions of this crate.
pub mod Guard
pub mod Headings
pub mod Label
pub mod TakeUp
