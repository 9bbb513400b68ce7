-- The operations of the machine that a script calls.
pub mod Calls
