use Rattle.std.proofs.Common.{◌≡◌, drop, map}
use Rattle.gql_graph.specs.Machinery.Shown.{shown}
use Rattle.gql_type.specs.Machinery.InOrder.{are_matched}
use Rattle.gql_type.proofs.content.are_matched.Given as goal

abbrev pub invariant-loop-kind : goal.invariant-loop-kind
invariant-loop-kind l = are_matched (drop l.kind-index l.body) (map shown l.rest) ≡ are_matched l.body (map shown l.properties)
