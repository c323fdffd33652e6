-- The laws of the module reading.
pub mod Laws
pub mod Exact
