-- The monomials of a derivative, one after the other.
pub mod Laws
