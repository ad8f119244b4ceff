pub mod SignSets
pub mod FillingLaws
pub mod EdgeLaws
pub mod QuantifierLaws
pub mod PrefixLaws
pub mod PathStarts
pub mod PathLevels
pub mod PathChains
pub mod PathLoops
pub mod PatternLaws
pub mod GraphLaws
mod PatternExamples
