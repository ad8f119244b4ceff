use Rattle.std.proofs.Common.{sym, ◌∙◌}
use Rattle.gql_expr_checks.specs.ExprMisuses.{misused_expr, elsewhere}
use Rattle.gql_expr_checks.specs.Refusals.{misuse_if}
use Rattle.gql_scope.proofs.CodeLemmas.{on_ok, stays}
use Rattle.gql_scope.proofs.misused_clauses.note_misuse.Goals as goal

pub returns-then-is_some : goal.returns-then-is_some
returns-then-is_some c = stays c.args.misuses.now (misuse_if (misused_expr c.args.scope.now elsewhere c.args.value.now)) (sym c.is_some.ensures ∙ c.if-is_some.true)

pub returns : goal.returns
returns c = on_ok c.note.result (λ notes. notes (misuse_if (misused_expr c.args.scope.now elsewhere c.args.value.now)) c.check_misuse.ensures.gives) c.note.ensures
