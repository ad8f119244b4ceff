use Rattle.std.proofs.Common.{subst}
use Rattle.gql_expr_checks.specs.Gives.{Fails}
use Rattle.gql_scope.proofs.CodeLemmas.{noted_defect}
use Rattle.gql_scope.proofs.refusals.note_fault.Goals as goal

pub returns-in-Defect : goal.returns-in-Defect
returns-in-Defect c = λ o fails. noted_defect c.in-Defect.refusal c.args.slot.now c.keep.new.slot o c.keep.ensures (subst (λ f. Fails f o) c.in-Defect.is fails)
