mod AverageSteps
pub mod Examples
mod Products
mod Reductions
mod RingTurns
mod Shifts
mod WindowSums
