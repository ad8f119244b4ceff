use Rattle.std.proofs.Common.{◌≡◌, length, map}
use Rattle.std.specs.Vec.Iter.{into_iter_items, into_iter_len}
use Rattle.gql_change.specs.AssignedGraph.{labels_after, properties_after}
use Rattle.gql_change.proofs.PlaceLemmas.{shown}
use Rattle.gql_change.proofs.swapping.act_each.Given as goal

abbrev pub invariant-loop-act : goal.invariant-loop-act
invariant-loop-act l = record {
  labels : labels_after (into_iter_items l.act-iterator) l.labels.items ≡ labels_after l.fn.acts.items l.fn.labels.items;
  properties : properties_after (into_iter_items l.act-iterator) (map shown l.properties.items) ≡ properties_after l.fn.acts.items (map shown l.fn.properties.items);
  counted : into_iter_len l.act-iterator ≡ length (into_iter_items l.act-iterator);
}
