pub mod Formulas
pub mod States
