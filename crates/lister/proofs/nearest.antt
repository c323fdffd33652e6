-- Cheap pairs by V.
pub mod Laws
