-- Thinning: what the subsets that were sifted come to, what each reply says, and that it is the only one.
pub mod Tallies
pub mod Laws
pub mod Smallest
pub mod Exact
