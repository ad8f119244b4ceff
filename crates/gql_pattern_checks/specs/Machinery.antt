-- What mirrors the code for its proofs. The promises cite gql_norm's definitions alone, so a reader of them may skip it.
pub mod PartWalk
pub mod Questions
pub mod Scopes
pub mod ScopeWalk
pub mod Marks
pub mod SeenColumns
