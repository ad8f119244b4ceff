use Rattle.gql_patterns.proofs.GraphLaws.{one_pattern}
use Rattle.gql_patterns.proofs.laws.patterns_derive_once.Goals as goal

pub returns : goal.returns
returns c = one_pattern
