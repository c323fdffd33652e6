-- The laws of the module words.
pub mod Laws
