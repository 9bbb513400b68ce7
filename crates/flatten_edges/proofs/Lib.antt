-- Laws of the definitions of this crate.
pub mod Walks
pub mod Gathers
pub mod Xors
pub mod Joining
pub mod Hears
pub mod Bears
pub mod Departs
pub mod Children
pub mod Visits
