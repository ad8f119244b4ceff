use Rattle.std.proofs.Common.{◌≡◌, map, drop, not}
use Rattle.std.specs.List.{list_any}
use Rattle.gql_ast.specs.Meaning.{tree_of}
use Rattle.gql_ast.specs.Projections.{is_key}
use Rattle.gql_ast.specs.declared.projection.ReturnItem.{ReturnItem}
use Rattle.gql_scope.proofs.outputs.any_listed.Given as goal

abbrev pub invariant-loop-item : goal.invariant-loop-item
invariant-loop-item l =
    list_any (λ e. not (is_key l.scope e)) (map (λ (i : ReturnItem). tree_of i.value) (drop l.item-index l.items))
    ≡ list_any (λ e. not (is_key l.scope e)) (map (λ (i : ReturnItem). tree_of i.value) l.items)
