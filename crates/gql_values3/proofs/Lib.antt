pub mod BoolLemmas
pub mod ItemLemmas
pub mod EqualityLemmas
pub mod FindLemmas
pub mod OrderLaws
pub mod WordLemmas
pub mod RowExamples
mod DigitLemmas
