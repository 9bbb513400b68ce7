-- What the exported functions answer, and what is lent to them.
pub mod Flags
pub mod Numbers
