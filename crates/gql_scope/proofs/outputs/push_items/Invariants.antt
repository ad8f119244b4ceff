use Rattle.std.proofs.Common.{◌≡◌, ◌++◌, map, take}
use Rattle.gql_ast.specs.Outputs.{item_column}
use Rattle.gql_scope.proofs.outputs.push_items.Given as goal

abbrev pub invariant-loop-item : goal.invariant-loop-item
invariant-loop-item l = l.outputs ≡ l.initial.outputs ++ map (item_column l.scope) (take l.item-index l.items)
