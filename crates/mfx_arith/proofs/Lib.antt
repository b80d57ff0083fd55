pub mod Examples
pub mod TypesTaken
pub mod WholeNumbers
mod WordProducts
