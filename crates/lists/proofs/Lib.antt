-- Laws of the definitions of this crate.
pub mod Ascending
pub mod Below
pub mod Bits
pub mod Bools
pub mod Columns
pub mod Concat
pub mod Images
pub mod Lists
pub mod Loops
pub mod Once
pub mod Options
pub mod Pairwise
pub mod Parts
pub mod Position
pub mod Within
