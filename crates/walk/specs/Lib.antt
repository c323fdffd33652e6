-- What the contracts of the walk cite, and the words of its claims.
pub mod Walk
pub mod Openings
pub mod Plan
pub mod Listing
pub mod Turns
pub mod Claims
