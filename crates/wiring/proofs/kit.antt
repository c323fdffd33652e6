-- The kit: its limit on the total degree, what it can build, and the full one.
pub mod Laws
pub mod Full
