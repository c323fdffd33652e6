-- What the contracts of the lister cite, and the words of its claims: document 02, [8].
pub mod Cheap
pub mod Nearest
pub mod Passes
pub mod Claims
