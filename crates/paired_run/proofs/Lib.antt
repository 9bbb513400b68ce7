-- Laws of what the code has of a run.
pub mod Carrying
pub mod Owing
pub mod Following
