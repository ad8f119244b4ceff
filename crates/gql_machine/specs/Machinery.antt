-- What mirrors the code for its proofs: the meaning of its values, and what stands between a statement and its commit point. A reader
-- of the promises may skip it.
pub mod Meaning
pub mod QueryEnds
pub mod Allowed
pub mod CommitPoints
