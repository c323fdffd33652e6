-- What the contracts of the head and of an answer cite.
pub mod Head
pub mod Answer
