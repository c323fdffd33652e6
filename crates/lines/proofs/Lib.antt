-- Laws that belong to no module of src/. Those of a module stand under its name: text, answer, digest, case, number, write.
pub mod Samples
pub mod Told
pub mod Cut
