pub mod ArgumentsRead
pub mod Examples
pub mod PointLaws
pub mod Shifts
mod Sizes
pub mod Steps
