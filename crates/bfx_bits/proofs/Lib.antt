pub mod Examples
mod TypesTaken
mod BitFacts
mod MaskFacts
mod PlaceFacts
mod TurnFacts
mod SaturatedShift
