pub mod FirstFaults
pub mod Machinery
