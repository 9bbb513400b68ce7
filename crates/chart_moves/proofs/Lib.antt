-- Laws of the definitions of this crate.
pub mod Active
pub mod Activities
pub mod After
pub mod CompleteSets
pub mod Destinations
pub mod Longest
pub mod Moved
pub mod Passing
pub mod Step
