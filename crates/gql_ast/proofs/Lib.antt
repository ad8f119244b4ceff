pub mod EscapeLemmas
pub mod HeightLemmas
pub mod LabelLemmas
pub mod LastClause
pub mod MeaningLemmas
pub mod NumberLemmas
pub mod PartLemmas
pub mod PatternLemmas
mod EvaluationExamples
mod NameExamples
