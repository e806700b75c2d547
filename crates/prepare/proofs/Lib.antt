pub mod Chosen
pub mod Ways
pub mod Ready
pub mod Guiding
