pub mod Writing
pub mod Records
pub mod Locating
pub mod Outcomes
