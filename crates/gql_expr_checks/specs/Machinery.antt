-- What mirrors the code for its proofs: what a map knows, what a walk seeks, sees and has seen. A reader of the promises may skip it.
pub mod Knowing
pub mod Sought
pub mod Places
pub mod Seen
pub mod NameList
