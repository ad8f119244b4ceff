use Rattle.std.proofs.Common.{◌≡◌}
use Rattle.gql_ast.specs.NumberLiterals.{numbers_in_clause}
use Rattle.gql_text.proofs.FindLemmas.{found}
use Rattle.gql_text.proofs.wide.clauses.in_clauses.Given as goal

abbrev pub invariant-loop-clause : goal.invariant-loop-clause
invariant-loop-clause l = found numbers_in_clause l.clauses l.clause-index ≡ found numbers_in_clause l.clauses 0
