-- Laws that belong to no module of src/.
pub mod Worked
