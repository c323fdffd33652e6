-- The laws of the module settings.
pub mod Laws
