-- The laws of specs/Order.antt, and of ascending lists.
pub mod Laws
pub mod Derived
pub mod Ascending
pub mod Inserting
