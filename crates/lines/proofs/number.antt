-- The laws of the module number.
pub mod Laws
pub mod Exact
pub mod Samples
