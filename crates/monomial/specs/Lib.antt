-- What the contracts of the monomial layer cite, and the words of its claims.
pub mod Lists
pub mod Monomial
pub mod Order
pub mod Product
pub mod Quotient
pub mod Divisors
pub mod Degree
pub mod Claims
