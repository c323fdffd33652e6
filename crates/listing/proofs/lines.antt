-- The laws of the lines of the second part.
pub mod Laws
pub mod Lefts
