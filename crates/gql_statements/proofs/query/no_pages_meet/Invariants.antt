use Rattle.std.proofs.Common.{◌≡◌, drop}
use Rattle.gql_statements.specs.QueryGrammar.{no_pages_meet}
use Rattle.gql_statements.proofs.QueryLoops.{none_meet}
use Rattle.gql_statements.proofs.query.no_pages_meet.Given as goal

abbrev pub invariant-loop-clause : goal.invariant-loop-clause
invariant-loop-clause l = record {
  so_far : none_meet l.behind_page (drop l.clause-index l.clauses) ≡ no_pages_meet l.clauses;
}
