pub mod Shapes
pub mod Rows
pub mod Variants
pub mod Names
pub mod Reading
pub mod Laws
