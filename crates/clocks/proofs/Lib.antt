-- Laws of the definitions of this crate.
pub mod Ticks
pub mod Clocks
pub mod Ranges
pub mod Rows
pub mod Longest
