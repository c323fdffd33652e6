-- The laws of specs/Coefficient.antt.
pub mod Laws
