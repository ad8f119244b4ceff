use Rattle.std.proofs.Common.{◌≡◌, IsFalse, OnOk, subst}
use Rattle.std.specs.Option.{option_or}
use Rattle.gql_expr_checks.specs.Gives.{Gives}
use Rattle.gql_scope.specs.WholePatterns.{columns_past}
use Rattle.gql_scope.specs.Machinery.Codes.{kept, names_refusal, refusal_by}
use Rattle.gql_scope.specs.declared.refusals.Code.{Code}
use Rattle.gql_scope.proofs.clauses.pass_clause.Goals as goal

pub returns-clause-names : goal.returns-clause-names
returns-clause-names c = subst (λ d. Gives c.pass_normal.result (names_refusal c.args.scope.now d)) c.in_ok-normal.ensures c.pass_normal.ensures.names

pub returns-clause-codes : goal.returns-clause-codes
returns-clause-codes c =
    subst
    (λ d. OnOk c.pass_normal.result ((k : Code) → kept k c.pass_normal.new.found ≡ option_or (kept k c.args.found.now) (refusal_by c.args.params.now k c.args.scope.now d)))
    c.in_ok-normal.ensures c.pass_normal.ensures.codes

pub returns-clause-columns : goal.returns-clause-columns
returns-clause-columns c =
    subst (λ d. OnOk c.pass_normal.result (IsFalse c.args.is_last → c.pass_normal.new.scope ≡ columns_past c.args.scope.now d)) c.in_ok-normal.ensures c.pass_normal.ensures.columns
