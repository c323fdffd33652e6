-- The laws of the new names.
pub mod Laws
pub mod Hearing
