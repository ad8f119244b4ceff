use Rattle.std.proofs.Common.{◌≡◌}
use Rattle.gql_degrees.proofs.BoundLemmas.{told_from_path}
use Rattle.gql_degrees.proofs.bounds.in_paths.Given as goal

abbrev pub invariant-loop-i : goal.invariant-loop-i
invariant-loop-i l = told_from_path l.paths l.i ≡ told_from_path l.paths 0
