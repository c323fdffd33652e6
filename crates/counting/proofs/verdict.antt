-- What follows for an opened set below its level.
pub mod Laws
