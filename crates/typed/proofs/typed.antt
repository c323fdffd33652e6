-- The laws of the module typed.
pub mod Laws
pub mod Numbers
pub mod Exact
