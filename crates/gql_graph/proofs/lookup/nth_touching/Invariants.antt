use Rattle.std.proofs.Common.{◌≡◌, map, filter, drop, slice_get}
use Rattle.gql_values3.specs.Lookup.{touches}
use Rattle.gql_graph.proofs.lookup.nth_touching.Given as goal

abbrev pub invariant-loop-edge : goal.invariant-loop-edge
invariant-loop-edge l = slice_get (map (λ r. r.number) (filter (touches l.node) (drop l.edge-index l.edges))) l.left ≡ slice_get (map (λ r. r.number) (filter (touches l.node) l.edges)) l.index
