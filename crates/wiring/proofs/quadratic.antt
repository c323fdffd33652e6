-- V2 and nonsquares, Definition 1, and what a loop over the records finds.
pub mod Laws
pub mod Definition1
pub mod Records
