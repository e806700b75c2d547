pub mod Laws
pub mod Period
