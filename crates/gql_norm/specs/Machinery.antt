-- What mirrors the code for its proofs: codes by which parts are told apart, and their heights; and a plain listing of reduced
-- bindings. A reader of the promises may skip it.
pub mod PartCode
pub mod PartHeight
pub mod PartFalls
pub mod PropertyPredicates
pub mod DegreeFolds
pub mod ColumnGrowth
pub mod Listing
