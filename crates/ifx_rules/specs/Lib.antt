pub mod LookUpRules
pub mod MapRules
pub mod KeptRules
