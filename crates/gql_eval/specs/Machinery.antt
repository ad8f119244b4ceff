-- What mirrors the code for its proofs: what its structs mean, and words for a step's clause. A reader of the promises may skip it.
pub mod Next
pub mod ScopeMeaning
pub mod Places
pub mod Noting
pub mod AtPlaces
pub mod Operations
pub mod JoinedTruth
pub mod Kept
pub mod Furthest
pub mod WholeSum
pub mod Ranked
pub mod Turned
pub mod Steps
pub mod Compiled
pub mod InstructionMeaning
pub mod HeldGroup
