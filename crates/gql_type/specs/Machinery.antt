-- What mirrors the code for its proofs; a reader of the promises may skip it.
pub mod InOrder
pub mod LabelListReaders
pub mod TypeReaders
