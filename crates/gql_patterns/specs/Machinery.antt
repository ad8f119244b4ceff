-- What mirrors the code for its proofs: a reader for each production, on lists of lexemes. The promise is the grammars'.
pub mod EdgeReaders
pub mod QuantifierReaders
pub mod PrefixReaders
pub mod PathReaders
pub mod PatternReaders
