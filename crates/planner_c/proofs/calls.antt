-- The functions for C: what they leave is the library's outcome, and nothing else is allowed.
pub mod Laws
pub mod Exact
pub mod Claims
