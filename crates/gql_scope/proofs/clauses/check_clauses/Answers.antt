use Rattle.std.proofs.Common.{◌≡◌, [], subst}
use Rattle.std.specs.Option.{option_or}
use Rattle.gql_expr_checks.specs.Gives.{Gives}
use Rattle.gql_expr_checks.proofs.RefusalLemmas.{gives_fault}
use Rattle.gql_scope.specs.WholePatterns.{clauses_refusal}
use Rattle.gql_scope.specs.Machinery.Codes.{kept, first_over, refusal_by}
use Rattle.gql_scope.specs.declared.refusals.Code.{Code}
use Rattle.gql_scope.proofs.CodeLemmas.{first_of_all, names_stop}
use Rattle.gql_scope.proofs.clauses.check_clauses.Goals as goal

pub returns-in_err-pass_clauses : goal.returns-in_err-pass_clauses
returns-in_err-pass_clauses c =
    let e = c.in_err-pass_clauses.field-0.0 in
    gives_fault c.from_residual.result e (clauses_refusal c.args.params.now c.args.clauses.now) c.from_residual.ensures.0 c.from_residual.ensures.1
    (names_stop c.args.params.now c.args.clauses.now e c.in_err-pass_clauses.ensures.names)

pub returns : goal.returns
returns c =
    let params = c.args.params.now in
    let cs = c.args.clauses.now in
    let after = c.pass_clauses.new.found in
    subst (Gives c.answer.result)
    (first_of_all params cs after c.in_ok-pass_clauses.ensures.names
    (subst (λ before. (k : Code) → kept k after ≡ option_or (kept k before) (first_over (refusal_by params k) [] cs)) c.new-found.ensures c.in_ok-pass_clauses.ensures.codes))
    c.answer.ensures
