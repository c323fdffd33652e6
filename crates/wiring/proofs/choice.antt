-- The best of a list, and the nonsquare that is split.
pub mod Laws
