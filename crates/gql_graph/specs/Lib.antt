pub mod Catalog
pub mod Bare
pub mod Edits
pub mod Room
pub mod Machinery
