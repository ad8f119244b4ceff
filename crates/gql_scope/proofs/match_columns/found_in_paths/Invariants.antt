use Rattle.std.proofs.Common.{◌≡◌, map, drop}
use Rattle.gql_norm.specs.NormalData.{path_data}
use Rattle.gql_scope.specs.Machinery.Gathering.{none_yet, with_paths}
use Rattle.gql_scope.specs.Machinery.GatheredData.{found_data}
use Rattle.gql_scope.proofs.match_columns.found_in_paths.Given as goal

abbrev pub invariant-loop-i : goal.invariant-loop-i
invariant-loop-i l = with_paths (found_data l.found) (map path_data (drop l.i l.paths)) ≡ with_paths none_yet (map path_data l.paths)
