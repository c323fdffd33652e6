-- What the contracts of the program cite.
pub mod Settings
pub mod Input
pub mod Answer
