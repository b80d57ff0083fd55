pub mod Cells
pub mod Blocks
pub mod Runs
pub mod Promises
pub mod RunLaws
