pub mod Tables
pub mod Curves
pub mod Stretches
pub mod Slopes
