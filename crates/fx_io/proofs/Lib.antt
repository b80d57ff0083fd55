pub mod PlaceLemmas
pub mod WholeLemmas
pub mod WriteLemmas
