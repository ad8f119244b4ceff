-- What mirrors the code for its proofs. A reader of the promises may skip it.
pub mod Said
pub mod FormReading
pub mod KeyOrder
pub mod Noted
pub mod Writing
