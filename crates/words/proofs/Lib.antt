pub mod Tests
pub mod Decided
pub mod Mirror
pub mod Order
pub mod Critical
pub mod Largest
pub mod Listed
