pub mod Examples
pub mod Polynomials
pub mod WholeNumbers
pub mod Denominators
pub mod Order
pub mod Distances
