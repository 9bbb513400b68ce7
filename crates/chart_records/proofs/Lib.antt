-- Laws of the definitions of this crate.
pub mod Entered
pub mod FirstVersion
pub mod Fixed
pub mod Ranges
pub mod Rules
pub mod States
pub mod Transitions
pub mod Tree
