pub mod Allowed
pub mod Reached
pub mod Stays
pub mod Open
pub mod Means
pub mod Overlapping
pub mod Costs
