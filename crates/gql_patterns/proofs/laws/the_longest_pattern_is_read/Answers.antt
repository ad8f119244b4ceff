use Rattle.gql_patterns.proofs.PathChains.{path_longest}
use Rattle.gql_patterns.proofs.GraphLaws.{graph_pattern_longest}
use Rattle.gql_patterns.proofs.laws.the_longest_pattern_is_read.Goals as goal

pub returns : goal.returns
returns c = record { pattern = graph_pattern_longest; path = path_longest }
