-- The laws of the module prepare.
pub mod Laws
pub mod Exact
