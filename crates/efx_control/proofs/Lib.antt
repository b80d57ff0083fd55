pub mod Examples
mod Reductions
mod Sums
