-- What mirrors the code for its proofs. A reader of the promises may skip it.
pub mod NoLength
pub mod OpenEnds
pub mod OpenReferences
pub mod BarredNames
