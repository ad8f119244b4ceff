-- What mirrors the code for its proofs: what its structs mean, how a grouped RETURN is worked out, and how wide rows are
-- while they are sorted. A reader of the promises may skip it.
pub mod AggregateMeaning
pub mod GroupMeaning
pub mod GroupPlan
pub mod Places
pub mod Preparations
pub mod Ranked
pub mod RowKeys
pub mod Running
pub mod StandingMeaning
pub mod Width
