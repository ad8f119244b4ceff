-- What mirrors the code for its proofs: reading as functions on lists. A reader of the promises may skip it.
pub mod TypeReading
