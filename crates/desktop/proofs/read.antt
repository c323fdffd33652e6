-- The laws of reading a listing.
pub mod Laws
pub mod Exact
pub mod Witness
