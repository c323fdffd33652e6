-- The wiring list, the loops that look for a pair, and a buffer that holds the list.
pub mod Laws
pub mod Length
pub mod Pairs
pub mod Sheets
pub mod Correct
