-- The laws of what a byte says.
pub mod Laws
