pub mod Calls
pub mod Code
