-- What a line of the script makes of a run.
pub mod Lines
