use Rattle.std.proofs.Common.{◌≡◌, map, take}
use Rattle.std.specs.Borrow.{Bor}
use Rattle.gql_ast.specs.Meaning.{tree_of}
use Rattle.gql_ast.specs.declared.expr.Expr.{Expr}
use Rattle.gql_table.specs.Machinery.GroupPlan.{planned}
use Rattle.gql_table.specs.Machinery.GroupMeaning.{item_meant}
use Rattle.gql_table.proofs.group_items.group_items.Given as goal

abbrev pub invariant-loop-i : goal.invariant-loop-i
invariant-loop-i l = map item_meant l.items.items ≡ map (planned l.columns) (map (λ (e : Bor Expr). tree_of e.now) (take l.i l.exprs))
