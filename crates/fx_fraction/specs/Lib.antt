pub mod Fraction
pub mod Laws
