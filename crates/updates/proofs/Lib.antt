-- Laws of the definitions of this crate.
pub mod Advances
pub mod Updates
