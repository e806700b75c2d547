pub mod Fingerprint
pub mod Examples
