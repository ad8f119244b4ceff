use Rattle.std.proofs.Common.{◌≡◌, ◌-◌, length, map, take, vec_len}
use Rattle.gql_values3.specs.Lookup.{properties_of}
use Rattle.gql_change.proofs.PlaceLemmas.{shown}
use Rattle.gql_change.proofs.copying.copy_properties.Given as goal

abbrev pub invariant-loop-name : goal.invariant-loop-name
invariant-loop-name g l = record {
  copied : map shown l.properties.items ≡ take (vec_len l.properties) (properties_of (g.V.View.graph l.view) l.elem);
}

abbrev pub decreases-loop-name : goal.decreases-loop-name
decreases-loop-name g l = length (properties_of (g.V.View.graph l.view) l.elem) - vec_len l.properties
