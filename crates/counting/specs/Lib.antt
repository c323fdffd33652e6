-- What the contracts of the counting rule cite, and of the nonsquares that it counts.
pub mod Counting
pub mod Gathering
pub mod Verdict
