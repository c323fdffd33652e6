-- The laws of the module text.
pub mod Laws
