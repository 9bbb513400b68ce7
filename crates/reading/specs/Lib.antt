-- The definitions of this crate.
pub mod Answer
pub mod Places
pub mod Reading
pub mod Verdict
pub mod Version
