-- The definitions of this crate.
pub mod Forms
pub mod TakeUp
pub mod Update
