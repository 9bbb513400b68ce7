-- Laws of the definitions of this crate.
pub mod Activity
pub mod Choosing
pub mod Longest
pub mod Moving
pub mod Stepping
pub mod Taken
pub mod Stands
