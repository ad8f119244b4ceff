pub mod AnswersLemmas
mod ShareLemmas
