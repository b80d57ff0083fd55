pub mod Causes
pub mod Outside
pub mod Places
pub mod States
pub mod Whole
