pub mod HeldNumbers
pub mod HeldLists
pub mod ListFacts
pub mod LineSteps
mod LinesCounted
pub mod GoodLines
mod NamePlaces
mod NamesKept
pub mod ReadingLaw
mod PrintedKinds
mod PrintedRoutines
mod PrintedNames
mod PrintedForms
mod PrintedLists
mod PrintedBlocks
mod PrintedWires
mod PrintedText
mod PrintedNetworks
mod TextExamples
mod PrintedPieces
