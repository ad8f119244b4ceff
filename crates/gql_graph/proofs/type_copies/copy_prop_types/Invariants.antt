use Rattle.std.proofs.Common.{◌≡◌, take}
use Rattle.gql_graph.proofs.type_copies.copy_prop_types.Given as goal

abbrev pub invariant-loop-prop_type : goal.invariant-loop-prop_type
invariant-loop-prop_type l = l.copies.items ≡ take l.prop_type-index l.types
