-- Laws of the exported functions.
pub mod Lending
pub mod Outcomes
