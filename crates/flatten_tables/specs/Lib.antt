pub mod Bounding
pub mod Summing
pub mod Numbering
