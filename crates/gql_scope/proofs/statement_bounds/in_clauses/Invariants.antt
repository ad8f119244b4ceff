use Rattle.std.proofs.Common.{◌≡◌, drop}
use Rattle.gql_scope.specs.StatementBounds.{first_bound}
use Rattle.gql_scope.proofs.statement_bounds.in_clauses.Given as goal

abbrev pub invariant-loop-i : goal.invariant-loop-i
invariant-loop-i l = first_bound (drop l.i l.clauses) ≡ first_bound l.clauses
