-- Sockets fed from outside: the bits of the marks, and monomials without signals.
pub mod Laws
pub mod Slopes
pub mod Unmarked
pub mod Driven
