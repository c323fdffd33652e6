-- The laws of the module typing.
pub mod Laws
pub mod Exact
