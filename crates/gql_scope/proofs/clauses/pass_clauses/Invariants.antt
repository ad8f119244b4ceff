use Rattle.std.proofs.Common.{◌≡◌, [], drop}
use Rattle.std.specs.Option.{option_or}
use Rattle.gql_scope.specs.Machinery.Codes.{kept, first_over, names_refusal, refusal_by}
use Rattle.gql_scope.specs.declared.refusals.Code.{Code}
use Rattle.gql_scope.proofs.clauses.pass_clauses.Given as goal

abbrev pub invariant-loop-i : goal.invariant-loop-i
invariant-loop-i l = record {
  names : first_over names_refusal l.scope (drop l.i l.clauses) ≡ first_over names_refusal [] l.clauses;
  codes : (k : Code) → option_or (kept k l.found) (first_over (refusal_by l.params k) l.scope (drop l.i l.clauses))
      ≡ option_or (kept k l.initial.found) (first_over (refusal_by l.params k) [] l.clauses);
}
