pub mod Kinds
pub mod Fits
