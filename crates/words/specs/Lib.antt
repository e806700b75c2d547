pub mod Word
pub mod Choice
pub mod Occurs
pub mod Listed
pub mod Period
pub mod Order
pub mod Critical
pub mod Examples
