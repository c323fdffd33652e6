-- The finds in the buffer.
pub mod Laws
pub mod Records
pub mod Finds
pub mod Laid
pub mod Wiring
