-- The laws of the module answer.
pub mod Exact
