use Rattle.std.proofs.Common.{◌≡◌, map, take}
use Rattle.gql_ast.specs.Meaning.{tree_of, link_of}
use Rattle.gql_ast.proofs.expr.+expr_copy.Given as goal

abbrev pub invariant-Exprs::try_copy-loop-item : goal.invariant-Exprs::try_copy-loop-item
invariant-Exprs::try_copy-loop-item l = map tree_of l.items.items ≡ map tree_of (take l.item-index l.item-items)

abbrev pub invariant-Steps::try_copy-loop-item : goal.invariant-Steps::try_copy-loop-item
invariant-Steps::try_copy-loop-item l = map link_of l.items.items ≡ map link_of (take l.item-index l.item-items)
