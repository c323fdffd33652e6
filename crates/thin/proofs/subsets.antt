-- Subsets: which there are, what sifting them comes to, and how they are listed in the buffer.
pub mod Laws
pub mod Members
pub mod Listing
pub mod Sifting
pub mod Deciding
