-- What the contracts of the lines cite, and what those of the programs say of their input.
pub mod Lengths
pub mod Text
pub mod Answer
pub mod Digest
pub mod Case
pub mod Write
pub mod Number
pub mod Input
pub mod Claims
