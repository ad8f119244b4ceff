pub mod TxnData
pub mod Edits
pub mod Keeps
pub mod Loads
pub mod Faults
pub mod Machinery
