-- What mirrors the code for its proofs; a reader of the promises may skip it.
pub mod Ascending
pub mod AfterChange
pub mod Shown
