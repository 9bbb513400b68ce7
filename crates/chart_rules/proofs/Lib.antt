-- Laws of the definitions of this crate.
pub mod Checks
pub mod Crossings
pub mod TransitionRules
