use Rattle.std.proofs.Common.{◌≡◌, map, filter, drop, slice_get}
use Rattle.std.specs.List.{list_any}
use Rattle.gql_values3.specs.Texts.{same_text}
use Rattle.gql_graph.proofs.lookup.nth_labelled.Given as goal

-- what is left to count among the nodes behind is what was asked for among all
abbrev pub invariant-loop-node : goal.invariant-loop-node
invariant-loop-node l = slice_get (map (λ r. r.number) (filter (λ r. list_any (same_text l.label) r.labels) (drop l.node-index l.nodes))) l.left ≡ slice_get (map (λ r. r.number) (filter (λ r. list_any (same_text l.label) r.labels) l.nodes)) l.index
