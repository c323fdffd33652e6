-- What the contracts of the reader cite.
pub mod Bytes
pub mod Lines
pub mod Machine
pub mod Held
pub mod Readable
pub mod Saying
pub mod Meaning
pub mod Counted
pub mod Known
