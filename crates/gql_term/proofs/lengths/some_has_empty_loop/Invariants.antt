use Rattle.std.proofs.Common.{◌≡◌, map, drop}
use Rattle.std.specs.List.{list_any}
use Rattle.gql_norm.specs.NormalData.{path_data}
use Rattle.gql_term.specs.Machinery.NoLength.{path_has_empty_loop}
use Rattle.gql_term.proofs.lengths.some_has_empty_loop.Given as goal

abbrev pub invariant-loop-i : goal.invariant-loop-i
invariant-loop-i l = list_any path_has_empty_loop (map path_data (drop l.i l.paths)) ≡ list_any path_has_empty_loop (map path_data l.paths)
