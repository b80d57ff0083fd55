pub mod States
pub mod Switching
