-- What the contracts of the functions for C cite.
pub mod Calls
pub mod Claims
