-- What the contracts of the wiring layer cite, and the words of its claims.
pub mod Panel
pub mod Kit
pub mod Sockets
pub mod Reply
pub mod Coefficient
pub mod Poly
pub mod Derivative
pub mod Quadratic
pub mod Signals
pub mod Terms
pub mod Sets
pub mod Choice
pub mod Wires
pub mod Answers
pub mod Kinds
pub mod Claims
