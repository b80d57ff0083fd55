pub mod Examples
mod Faults
pub mod Places
pub mod Points
mod Segments
pub mod Ways
