pub mod Bounds
pub mod Refusals
pub mod Said
pub mod Checks
pub mod Examples
