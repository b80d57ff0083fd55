pub mod DraftLemmas
pub mod ListNames
pub mod PartPlaces
mod NumberingLemmas
mod NameLemmas
pub mod FamilyFacts
pub mod ValidityFacts
pub mod LookUpFacts
pub mod NetworksGoOn
pub mod TestedDrafts
pub mod HeldKinds
pub mod SideBySide
pub mod FormTypes
