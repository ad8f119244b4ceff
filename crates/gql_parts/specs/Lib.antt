pub mod Parts
pub mod Values
pub mod PartWords
pub mod FillerGrammar
pub mod Machinery
