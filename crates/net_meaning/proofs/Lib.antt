pub mod Examples
pub mod Arguments
pub mod Equations
pub mod OneRun
pub mod TableRun
