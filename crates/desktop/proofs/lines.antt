-- The laws of the derivative lines.
pub mod Laws
pub mod Going
