-- The theorems of every reader.
pub mod Finish
pub mod Places
pub mod Loop
pub mod Exact
