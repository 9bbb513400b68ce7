-- The definitions that the contracts of scripts cite.
pub mod Script
pub mod Places
pub mod Machine
