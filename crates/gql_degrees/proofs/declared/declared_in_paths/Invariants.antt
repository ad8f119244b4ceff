use Rattle.std.proofs.Common.{◌≡◌, ◌++◌, map, drop}
use Rattle.gql_norm.specs.NormalData.{path_data}
use Rattle.gql_degrees.specs.Machinery.KindWalk.{declared_in_all_paths}
use Rattle.gql_degrees.proofs.declared.declared_in_paths.Given as goal

abbrev pub invariant-loop-i : goal.invariant-loop-i
invariant-loop-i l = l.names ++ declared_in_all_paths (map path_data (drop l.i l.paths)) ≡ declared_in_all_paths (map path_data l.paths)
