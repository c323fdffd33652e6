-- What the contracts of reading a listing cite, and the words of its claims.
pub mod Names
pub mod Lines
pub mod Read
pub mod Claims
