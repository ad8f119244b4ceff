pub mod OutcomeText
pub mod Machinery
