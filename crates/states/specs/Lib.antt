pub mod States
pub mod Examples
