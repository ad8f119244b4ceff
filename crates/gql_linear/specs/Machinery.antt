-- What mirrors the code for its proofs: which clauses act over tables alone, and what a MATCH prepares. A reader of the promises may skip it.
pub mod TableClauses
pub mod ReadyMatch
