-- Term records: what clean ones hold, and when each refusal is said.
pub mod Laws
pub mod Exact
