-- The opener and the pair runner, held to the run of the list of steps.
pub mod Laws
pub mod Judging
pub mod Runner
