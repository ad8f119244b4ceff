mod ConformanceExamples
pub mod SortedTexts
mod SetLemmas
mod MatchingLemmas
pub mod ConformanceLemmas
mod BodyLemmas
mod FaultLemmas
mod BodyExamples
pub mod LabelListLaws
pub mod WordsLaws
pub mod TypeLaws
mod TypeExamples
mod NumberLemmas
