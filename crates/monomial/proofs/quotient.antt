-- The laws of specs/Quotient.antt.
pub mod Laws
