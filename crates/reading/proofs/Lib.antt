-- Laws of the definitions of this crate.
pub mod Answer
pub mod Frames
pub mod InFront
pub mod Lengths
pub mod Many
pub mod Places
pub mod Printed
pub mod Reading
pub mod Sizes
pub mod Skips
pub mod Verdicts
pub mod Versions
