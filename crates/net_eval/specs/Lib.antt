pub mod After
pub mod States
pub mod Steps
pub mod Typing
pub mod Picking
