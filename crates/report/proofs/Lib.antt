-- Laws that belong to no module of src/. Those of a module stand under its name: prepare, line.
pub mod Samples
pub mod Done
pub mod Written
