-- What the contracts of the truth of a line cite.
pub mod Truth
pub mod Sums
