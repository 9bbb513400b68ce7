-- Laws of the definitions of this crate.
pub mod Entries
pub mod Tables
