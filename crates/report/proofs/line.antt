-- The laws of the module line.
pub mod Laws
pub mod Exact
