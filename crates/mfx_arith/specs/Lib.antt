pub mod Operations
pub mod Formulas
pub mod Calls
pub mod Integers
