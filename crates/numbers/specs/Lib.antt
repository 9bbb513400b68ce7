-- The definitions that the contracts of numbers and values cite.
pub mod Integer
pub mod Relation
pub mod Value
