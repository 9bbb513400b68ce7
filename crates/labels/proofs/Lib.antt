-- Laws of the definitions of this crate.
pub mod FirstVersion
pub mod Guards
pub mod Headings
pub mod LabelRanges
pub mod Labels
pub mod TakeUp
