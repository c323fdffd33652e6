-- The passes of the lister.
pub mod Laws
