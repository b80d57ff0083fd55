pub mod Formulas
pub mod States
pub mod Windows
