use Rattle.std.proofs.Common.{◌≡◌, ◌++◌, map, length, true}
use Rattle.std.specs.List.{list_all}
use Rattle.std.specs.Vec.Iter.{into_iter_items, into_iter_len}
use Rattle.gql_values3.specs.PropertyGraph.{is_graph}
use Rattle.gql_graph.specs.Bare.{bare}
use Rattle.gql_rowcode.specs.Machinery.Noted.{named_seen, graph_seen}
use Rattle.gql_rowcode.proofs.catalog.held_graphs.Given as goal

abbrev pub invariant-loop-name : goal.invariant-loop-name
invariant-loop-name l = record {
  whole : map bare l.held.items ++ map named_seen (into_iter_items l.name-iterator) ≡ map named_seen l.fn.graphs.items;
  fit : list_all (λ g. is_graph (graph_seen g.1).graph) (into_iter_items l.name-iterator) ≡ true;
  counted : into_iter_len l.name-iterator ≡ length (into_iter_items l.name-iterator);
}
