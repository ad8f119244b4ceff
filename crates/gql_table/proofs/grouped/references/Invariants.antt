use Rattle.std.proofs.Common.{◌≡◌, map, take}
use Rattle.std.specs.Borrow.{Bor}
use Rattle.gql_ast.specs.Meaning.{tree_of}
use Rattle.gql_ast.specs.declared.expr.Expr.{Expr}
use Rattle.gql_table.proofs.grouped.references.Given as goal

abbrev pub invariant-loop-i : goal.invariant-loop-i
invariant-loop-i l = map (λ (e : Bor Expr). tree_of e.now) l.exprs.items ≡ map tree_of (take l.i l.names)
