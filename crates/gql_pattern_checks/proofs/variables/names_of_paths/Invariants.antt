use Rattle.std.proofs.Common.{◌≡◌, map, drop}
use Rattle.gql_norm.specs.NormalData.{path_data}
use Rattle.gql_pattern_checks.specs.Machinery.Scopes.{no_names, with_paths}
use Rattle.gql_pattern_checks.proofs.variables.names_of_paths.Given as goal

abbrev pub invariant-loop-path : goal.invariant-loop-path
invariant-loop-path l = with_paths l.names (map path_data (drop l.path-index l.paths)) ≡ with_paths no_names (map path_data l.paths)
