-- The laws of specs/Divisors.antt: divisors, the one that follows, factor pairs, and how many there are.
pub mod Laws
pub mod Following
pub mod Pairs
pub mod Count
