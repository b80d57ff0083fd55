pub mod PartNames
pub mod CertificateText
pub mod CertificateReading
pub mod CertificatePrinting
pub mod Claims
