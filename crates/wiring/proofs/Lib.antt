-- Laws that belong to no module of src/. Those of a module stand under its name.
pub mod Ints
pub mod Poly
pub mod Chains
pub mod kinds
pub mod Samples
