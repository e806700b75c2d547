pub mod Window
pub mod Search
pub mod Mirror
pub mod Shape
pub mod Meaning
pub mod Bounds
