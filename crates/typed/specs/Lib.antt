-- What the contracts of the writer cite.
pub mod Typed
