pub mod NormalPartLemmas
mod DegreeTables
pub mod DegreeLemmas
pub mod ColumnLemmas
pub mod DeclaredLemmas
pub mod HeightLemmas
pub mod Measures
pub mod MatchTableLemmas
pub mod AmongLemmas
pub mod ExpansionLemmas
pub mod LayingLemmas
pub mod LengthLemmas
pub mod ReducedOrder
pub mod ListedBindings
pub mod ExampleGraph
pub mod BindingExamples
pub mod MoreBindingExamples
pub mod RowExamples
mod LegalExamples
mod NearMissExamples
mod NearMissTables
mod StartExamples
mod AllShortest
mod AnyExamples
mod SelectorExamples
pub mod ModeLemmas
mod NormalFormExamples
pub mod Pigeonhole
pub mod ScopeLemmas
pub mod Finiteness
pub mod FiniteLists
pub mod PathLemmas
pub mod TrailLemmas
pub mod EasedMatches
pub mod RowLengths
pub mod EachLemmas
pub mod PositionKinds
pub mod NameKinds
pub mod KnownDegrees
pub mod GroupNames
pub mod RowProperties
pub mod CellKinds
pub mod OneTable
pub mod NothingRefused
pub mod LoopLemmas
pub mod VisibleLemmas
