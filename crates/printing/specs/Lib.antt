pub mod Examples
pub mod InRoom
pub mod Printing
