pub mod ReadyLemmas
mod ChangeLeads
mod ClauseSteps
mod FaultSteps
mod MatchLeads
mod MatchSteps
mod QuerySteps
pub mod OneWayLemmas
