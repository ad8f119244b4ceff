use Rattle.std.proofs.Common.{◌≡◌, ◌++◌, drop}
use Rattle.gql_pattern_checks.specs.Machinery.Scopes.{known_columns}
use Rattle.gql_pattern_checks.specs.Machinery.SeenColumns.{seen_columns}
use Rattle.gql_pattern_checks.proofs.seen.columns_of.Given as goal

abbrev pub invariant-loop-i : goal.invariant-loop-i
invariant-loop-i l =
    l.seen ++ seen_columns (known_columns l.columns l.names) (drop l.i l.asked) ≡ seen_columns (known_columns l.columns l.names) l.asked
