-- The code's names that were declared, seen as plain data.
use Rattle.gql_degrees.specs.Machinery.KindWalk.{Before}
use Rattle.gql_degrees.specs.declared.kinds.Seen.{Seen}

abbrev pub seen_data : Seen → Before
seen_data s = record { nodes = s.nodes; edges = s.edges }
