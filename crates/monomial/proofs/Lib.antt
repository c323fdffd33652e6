-- Laws that belong to no module of src/. Those of a module stand under its name: order, product, divisors.
pub mod Tests
pub mod Members
pub mod Rearranged
pub mod Different
pub mod Variables
pub mod Within
pub mod Counting
pub mod Loops
pub mod FromFn
pub mod Strips
pub mod Samples
