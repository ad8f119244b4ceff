use Rattle.std.proofs.Common.{◌≡◌, ◌-◌, length, take, vec_len}
use Rattle.gql_values3.specs.Lookup.{labels_of}
use Rattle.gql_change.proofs.copying.copy_labels.Given as goal

abbrev pub invariant-loop-label : goal.invariant-loop-label
invariant-loop-label g l = record {
  copied : l.labels.items ≡ take (vec_len l.labels) (labels_of (g.V.View.graph l.view) l.elem);
}

abbrev pub decreases-loop-label : goal.decreases-loop-label
decreases-loop-label g l = length (labels_of (g.V.View.graph l.view) l.elem) - vec_len l.labels
