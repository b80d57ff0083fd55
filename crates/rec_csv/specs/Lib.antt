pub mod Fields
pub mod Headers
pub mod Rows
pub mod Recordings
pub mod Slots
pub mod Verdicts
