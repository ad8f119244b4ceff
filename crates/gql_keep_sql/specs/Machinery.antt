-- What mirrors the code, for its proofs; no public contract promises it.
pub mod Merge
