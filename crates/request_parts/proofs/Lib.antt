-- Laws of the parts of a request.
pub mod Numbers
pub mod Fills
pub mod Fronts
