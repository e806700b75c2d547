pub mod Laws
pub mod Bounds
pub mod Meaning
