use Rattle.std.proofs.Common.{◌≡◌, map, drop}
use Rattle.gql_norm.specs.NormalData.{path_data}
use Rattle.gql_pattern_checks.specs.Machinery.ScopeWalk.{any_named}
use Rattle.gql_pattern_checks.proofs.scoped_paths.any_named.Given as goal

abbrev pub invariant-loop-path : goal.invariant-loop-path
invariant-loop-path l = any_named (map path_data (drop l.path-index l.paths)) ≡ any_named (map path_data l.paths)
