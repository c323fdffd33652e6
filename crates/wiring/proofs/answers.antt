-- Wiring: what each reply says, and that it is the only one.
pub mod Laws
pub mod Exact
pub mod TwoSystems
pub mod Limits
pub mod Wired
pub mod Alone
pub mod Recorded
