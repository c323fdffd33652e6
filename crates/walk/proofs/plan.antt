-- Planning: what each reply says, and that it is the only one.
pub mod Laws
pub mod Exact
pub mod Kit
pub mod Records
pub mod Sockets
pub mod Closing
pub mod Order
