-- The numbers tell two replies apart.
pub mod Laws
