-- The laws of specs/Degree.antt.
pub mod Laws
