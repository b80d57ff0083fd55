pub mod Maps
pub mod Surfaces
pub mod Slopes
