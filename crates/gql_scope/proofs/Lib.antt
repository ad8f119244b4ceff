pub mod ProjectionLemmas
pub mod LetLemmas
pub mod SpotLemmas
pub mod MapLemmas
pub mod FewItems
pub mod CodeLemmas
pub mod WalkLemmas
pub mod JoinLemmas
pub mod FormLemmas
pub mod GatheringLemmas
pub mod SoundLemmas
mod TypeLemmas
mod RefusalExamples
mod ChangeExamples
mod PatternExamples
