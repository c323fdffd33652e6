-- Kinds of monomials: what each obeys, and that the panel's does.
pub mod Powers
pub mod Plain
