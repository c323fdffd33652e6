-- What the contracts of the new names cite, and the words of their claims.
pub mod Roster
pub mod Claims
