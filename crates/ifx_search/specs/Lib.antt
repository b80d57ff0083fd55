pub mod Axes
pub mod Positions
