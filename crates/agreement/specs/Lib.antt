-- What is claimed of a chart and its network, demand 3, and of the take-up over runs.
pub mod Agreement
pub mod TakeUp
