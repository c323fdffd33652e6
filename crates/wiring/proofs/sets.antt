-- Set records: what right ones hold, and when one is refused.
pub mod Laws
pub mod Exact
