pub mod Units
pub mod Within
pub mod Entries
pub mod Ranges
pub mod Errors
pub mod WideBounds
pub mod PartRules
