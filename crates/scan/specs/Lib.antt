pub mod Scanned
pub mod Examples
