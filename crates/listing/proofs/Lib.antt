-- Laws that belong to no module of src/. Those of a module stand under its name: lines, saying.
pub mod Steps
pub mod Finishes
pub mod Keeps
pub mod Places
pub mod Samples
pub mod Meanings
pub mod Counts
pub mod Sounds
pub mod Notes
pub mod Following
pub mod Ended
pub mod Wide
