-- The laws of the module case.
pub mod Laws
