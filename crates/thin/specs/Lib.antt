-- What the contracts of thinning cite, and the words of its claims.
pub mod Subsets
pub mod Thin
pub mod Claims
