-- What mirrors the code for its proofs: a reader for each part, on lists of lexemes. The promise is the grammar's.
pub mod PartReaders
pub mod FillerReaders
