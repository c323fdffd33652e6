-- Arrays of monomials and tables of them as lists, V, and V and V2 by division.
pub mod Arrays
pub mod Tables
pub mod Laws
pub mod Division
