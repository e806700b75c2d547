pub mod Find
pub mod Meaning
pub mod Examples
