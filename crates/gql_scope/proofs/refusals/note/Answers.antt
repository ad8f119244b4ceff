use Rattle.std.proofs.Common.{subst}
use Rattle.gql_expr_checks.specs.Gives.{Gives}
use Rattle.gql_scope.proofs.CodeLemmas.{noted_nothing, on_ok}
use Rattle.gql_scope.proofs.refusals.note.Goals as goal

pub returns-in-Ok : goal.returns-in-Ok
returns-in-Ok c = λ o gives. noted_nothing c.args.slot.now o (subst (λ r. Gives r o) c.in-Ok.is gives)

pub returns-in-Err : goal.returns-in-Err
returns-in-Err c = on_ok c.note_fault.result (λ notes o gives. notes o (subst (λ r. Gives r o) c.in-Err.is gives)) c.note_fault.ensures
