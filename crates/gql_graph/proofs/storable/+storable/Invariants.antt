use Rattle.std.proofs.Common.{◌≡◌, ◌+◌, ◌*◌, map, drop}
use Rattle.gql_values3.specs.Datum.{data_of}
use Rattle.gql_values3.specs.Meaning.{datum_of}
use Rattle.gql_values3.specs.PropertyGraph.{are_storable}
use Rattle.gql_graph.proofs.storable.+storable.Given as goal

abbrev pub decreases-is_storable : goal.decreases-is_storable
decreases-is_storable l = 2 * l.depth

abbrev pub decreases-are_storable : goal.decreases-are_storable
decreases-are_storable l = 2 * l.depth + 1

abbrev pub invariant-are_storable-loop-value : goal.invariant-are_storable-loop-value
invariant-are_storable-loop-value l = are_storable (data_of (map datum_of (drop l.value-index l.values))) l.depth ≡ are_storable (data_of (map datum_of l.values)) l.depth
