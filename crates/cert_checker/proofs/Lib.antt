pub mod PartPlaces
pub mod HeldWithin
pub mod CertificateSteps
pub mod CertificateLaws
pub mod Findings
pub mod RejectedPlaces
pub mod Verdicts
pub mod PrintedEntries
pub mod PrintedCertificates
mod Examples
