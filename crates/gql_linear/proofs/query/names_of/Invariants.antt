use Rattle.std.proofs.Common.{◌≡◌, ℕ, List, map}
use Rattle.gql_values3.specs.declared.table.ColumnKind.{ColumnKind}
use Rattle.gql_linear.proofs.query.names_of.Given as goal

abbrev pub invariant-loop-column : goal.invariant-loop-column
invariant-loop-column l = l.names ≡ map (λ (c : List ℕ × ColumnKind). c.0) l.yielded
