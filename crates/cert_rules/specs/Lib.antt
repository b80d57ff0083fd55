pub mod Certificates
pub mod Rules
pub mod Acceptance
pub mod Proper
pub mod Arguments
pub mod Soundness
pub mod GivenBounds
pub mod Theorem
