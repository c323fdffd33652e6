-- Laws of gathering.
pub mod Laws
