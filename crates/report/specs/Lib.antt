-- What the contracts of the report cite.
pub mod Prepare
pub mod Report
pub mod Program
