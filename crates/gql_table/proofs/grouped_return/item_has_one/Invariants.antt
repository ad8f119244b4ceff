use Rattle.std.proofs.Common.{◌≡◌, map, drop, not}
use Rattle.std.specs.List.{list_any}
use Rattle.gql_ast.specs.Tree.{Tree}
use Rattle.gql_ast.specs.Meaning.{tree_of}
use Rattle.gql_ast.specs.declared.projection.ReturnItem.{ReturnItem}
use Rattle.gql_ast.specs.Projections.{is_key}
use Rattle.gql_table.proofs.grouped_return.item_has_one.Given as goal

abbrev pub invariant-loop-i : goal.invariant-loop-i
invariant-loop-i l =
    list_any (λ (e : Tree). not (is_key l.columns e)) (map (λ (i : ReturnItem). tree_of i.value) (drop l.i l.items))
    ≡ list_any (λ (e : Tree). not (is_key l.columns e)) (map (λ (i : ReturnItem). tree_of i.value) l.items)
