pub mod Examples
pub mod Integers
pub mod RoundingLaws
pub mod TypeLaws
mod Words
pub mod WordSteps
pub mod RoundedFractions
