-- What the contracts of the program cite.
pub mod Words
pub mod Typing
pub mod Reading
