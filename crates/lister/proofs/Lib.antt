-- Laws that belong to no module of src/. Those of a module stand under its name.
pub mod Order
pub mod Worked
