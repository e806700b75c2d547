pub mod Room
pub mod Checks
pub mod Said
