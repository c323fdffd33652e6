-- Derivatives: the rules that fix them, record by record, and how large they can be.
pub mod Rules
pub mod Terms
pub mod Records
pub mod Bounds
pub mod Cancelling
pub mod Panel
