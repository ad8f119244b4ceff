use Rattle.std.proofs.Common.{◌≡◌, map, drop}
use Rattle.std.specs.List.{list_any}
use Rattle.gql_norm.specs.NormalData.{path_data}
use Rattle.gql_norm.specs.Termination.{is_unprotected}
use Rattle.gql_term.proofs.open_ends.some_is_unprotected.Given as goal

abbrev pub invariant-loop-i : goal.invariant-loop-i
invariant-loop-i l = list_any is_unprotected (map path_data (drop l.i l.paths)) ≡ list_any is_unprotected (map path_data l.paths)
