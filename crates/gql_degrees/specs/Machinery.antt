-- What mirrors the code for its proofs. A reader of the promises may skip it.
pub mod ToldBounds
pub mod KindWalk
pub mod SeenData
pub mod JoinWalk
pub mod JoinData
