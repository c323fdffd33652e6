-- Laws of counting.
pub mod Laws
pub mod Hits
pub mod Begins
pub mod Quotients
pub mod Sums
