-- The laws of specs/Product.antt.
pub mod Laws
