-- Laws of the definitions of this crate.
pub mod Edges
pub mod Fields
pub mod FirstVersion
pub mod Headers
pub mod Ranges
pub mod Records
