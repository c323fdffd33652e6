-- What a pair adds.
pub mod Laws
