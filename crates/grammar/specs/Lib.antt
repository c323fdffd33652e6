-- The grammar of a listing.
pub mod Grammar
pub mod Claims
