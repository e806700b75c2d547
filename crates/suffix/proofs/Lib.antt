pub mod Steps
pub mod Invariant
pub mod Maximal
pub mod Loop
pub mod Laws
