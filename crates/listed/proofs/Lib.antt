-- Laws that belong to no module of src/. Those of a module stand under its name: words, typing, reading.
pub mod Written
pub mod Enough
