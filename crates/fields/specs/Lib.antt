pub mod Examples
pub mod Fields
