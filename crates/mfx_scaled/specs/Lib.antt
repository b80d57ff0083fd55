pub mod Formulas
pub mod Operations
pub mod Calls
pub mod Counts
