-- What mirrors the code for its proofs: a reader for each production, on lists of lexemes. The promise is the grammar's.
pub mod PageReaders
pub mod ReturnReaders
pub mod MatchReaders
pub mod ChangeReaders
pub mod ClauseReaders
pub mod QueryReaders
pub mod GraphReaders
pub mod SessionReaders
pub mod TransactionReaders
pub mod CatalogReaders
pub mod StatementReaders
