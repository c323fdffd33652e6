-- The truth of a line: what it says, the cells of its sums, how the sums decide it, and the machine's own steps.
pub mod Laws
pub mod Cells
pub mod Deciding
pub mod Machine
pub mod Ranges
pub mod Places
