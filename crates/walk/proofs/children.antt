-- Children of a set.
pub mod Laws
pub mod Offers
