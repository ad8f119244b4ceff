use Rattle.std.proofs.Common.{◌≡◌, ◌++◌, map, filter, drop}
use Rattle.gql_ast.specs.Meaning.{tree_of}
use Rattle.gql_ast.specs.Outputs.{item_name}
use Rattle.gql_ast.specs.Projections.{is_key}
use Rattle.gql_ast.specs.declared.projection.ReturnItem.{ReturnItem}
use Rattle.gql_expr_checks.specs.Machinery.Seen.{names_of}
use Rattle.gql_scope.proofs.grouping.push_keys.Given as goal

abbrev pub invariant-loop-item : goal.invariant-loop-item
invariant-loop-item l =
    names_of l.keys ++ map item_name (filter (λ (i : ReturnItem). is_key l.scope (tree_of i.value)) (drop l.item-index l.items))
    ≡ names_of l.initial.keys ++ map item_name (filter (λ (i : ReturnItem). is_key l.scope (tree_of i.value)) l.items)
