use Rattle.std.proofs.Common.{◌≡◌, map, drop}
use Rattle.gql_values3.specs.PropertyGraph.{numbers_ascend}
use Rattle.gql_graph.proofs.numbers.numbers_ascend.Given as goal

abbrev pub invariant-loop-item : goal.invariant-loop-item
invariant-loop-item g l = numbers_ascend l.low (map g.T.Numbered.number_of (drop l.item-index l.items)) l.next ≡ numbers_ascend 0 (map g.T.Numbered.number_of l.items) l.next
