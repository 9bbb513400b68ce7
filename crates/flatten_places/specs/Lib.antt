-- The definitions of this crate.
pub mod Filling
pub mod Tables
pub mod Walking
