-- What mirrors the code for its proofs. A reader of the promises may skip it.
pub mod Changes
pub mod GraphChanges
pub mod Meaning
pub mod Same
pub mod Storing
