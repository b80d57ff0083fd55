pub mod TableRows
pub mod PartLaws
pub mod SameRoutines
pub mod NameLaws
mod DistinctNames
