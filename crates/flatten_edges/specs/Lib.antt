pub mod Gathering
pub mod Adding
pub mod Ends
pub mod Hearing
pub mod Bearing
pub mod Sourcing
