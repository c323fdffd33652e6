-- Names that form a set: the loops that put them in order and write the record, and what is promised of the set.
pub mod Placing
pub mod Writing
pub mod Joining
pub mod Laws
