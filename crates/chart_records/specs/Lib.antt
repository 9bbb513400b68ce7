-- The definitions of this crate.
pub mod Chart
pub mod Laid
pub mod Layout
pub mod Rules
pub mod Tree
