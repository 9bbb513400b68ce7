pub mod Flatten
pub mod Picture
pub mod File
pub mod Before
pub mod Samples
