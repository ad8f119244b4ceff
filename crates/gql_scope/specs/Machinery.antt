-- What mirrors the code for its proofs: what a walk over clauses keeps and an INSERT is asked, and how the names of a pattern are gathered. A reader of the
-- promises may skip it.
pub mod Codes
pub mod Questions
pub mod Forms
pub mod Gathering
pub mod GatheredData
pub mod Joins
