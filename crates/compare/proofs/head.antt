-- The laws of the module head.
pub mod Laws
