-- The laws of the module write.
pub mod Laws
