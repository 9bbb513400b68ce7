-- Laws of the definitions of this crate.
pub mod Lined
pub mod Followed
