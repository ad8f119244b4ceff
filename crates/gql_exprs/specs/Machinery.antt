-- What mirrors the code for its proofs: a reader for each production, on lists of lexemes. The promise is the grammar's.
pub mod LabelReaders
pub mod LeafReaders
pub mod Readers
pub mod EndingMeaning
