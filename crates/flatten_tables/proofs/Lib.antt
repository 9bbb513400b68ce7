-- Laws of the definitions of this crate.
pub mod Bounding
pub mod Sensing
pub mod Slots
pub mod Tabulates
