pub mod Ways
pub mod Windows
pub mod Meaning
pub mod Matches
pub mod Searches
pub mod Counts
pub mod Mirror
