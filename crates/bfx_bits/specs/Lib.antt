pub mod Bits
pub mod Routines
