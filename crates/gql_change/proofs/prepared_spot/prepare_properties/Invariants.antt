use Rattle.std.proofs.Common.{◌≡◌, ◌++◌, map, drop}
use Rattle.gql_ast.specs.declared.filler.MapItem.{MapItem}
use Rattle.gql_change.specs.Machinery.InRow.{named_preparation}
use Rattle.gql_change.proofs.prepared_spot.prepare_properties.Given as goal

abbrev pub invariant-loop-i : goal.invariant-loop-i
invariant-loop-i l =
    l.all.items ++ map (λ (i : MapItem). named_preparation l.columns l.params i.name i.value) (drop l.i l.items)
    ≡ map (λ (i : MapItem). named_preparation l.columns l.params i.name i.value) l.items
