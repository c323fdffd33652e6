-- What is typed of a quadratic set is read with yes, and gives the same set.
pub mod Back
pub mod Pieces
pub mod Trees
pub mod Yes
pub mod Exact
