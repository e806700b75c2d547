pub mod Fitting
pub mod Moves
