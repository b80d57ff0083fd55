pub mod Rounding
pub mod Types
pub mod Values
pub mod Arguments
pub mod FractionLaws
