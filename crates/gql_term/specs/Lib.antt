pub mod FirstReference
pub mod Machinery
