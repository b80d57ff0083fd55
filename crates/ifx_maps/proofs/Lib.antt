mod Examples
mod GreatestSteps
mod MapFaults
pub mod SurfacePoints
mod WeightedValues
