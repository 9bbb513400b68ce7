-- Laws of the definitions of this crate.
pub mod Climbing
pub mod Windows
pub mod Passing
pub mod Appended
