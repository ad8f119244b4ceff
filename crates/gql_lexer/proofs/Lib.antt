pub mod LengthLemmas
pub mod FormLemmas
pub mod LawLemmas
pub mod LexemeLemmas
pub mod CutLemmas
mod CutExamples
pub mod QuoteLemmas
pub mod SpanLemmas
pub mod PieceLemmas
pub mod FrontLemmas
pub mod NameLemmas
pub mod SymbolLemmas
pub mod PlaceTables
