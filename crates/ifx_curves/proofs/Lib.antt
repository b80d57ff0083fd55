pub mod CurvePoints
mod Examples
mod GreatestSteps
pub mod Means
mod PositionPoints
mod TableFaults
