-- The definitions of this crate.
pub mod Edges
pub mod Headers
pub mod Layout
pub mod Network
