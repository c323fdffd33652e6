-- The words of what is claimed of typing and reading.
pub mod Claims
