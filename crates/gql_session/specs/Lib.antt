pub mod RunEnds
pub mod Endings
pub mod Pieces
pub mod Words
pub mod GeneratedText
pub mod Status
pub mod Machinery
