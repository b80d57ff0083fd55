pub mod FilterRules
pub mod FilterCorners
pub mod KeptRules
pub mod StateEntries
