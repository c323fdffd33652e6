-- Laws that belong to no module of src/. Those of a module stand under its name.
pub mod UpTo
pub mod Largest
pub mod Enough
pub mod Worked
