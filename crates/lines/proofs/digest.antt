-- The laws of the module digest.
pub mod Laws
