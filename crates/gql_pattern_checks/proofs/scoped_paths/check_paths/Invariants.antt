use Rattle.std.proofs.Common.{◌≡◌, [], map, drop}
use Rattle.gql_norm.specs.NormalData.{path_data}
use Rattle.gql_pattern_checks.specs.Machinery.ScopeWalk.{refused_in_paths}
use Rattle.gql_pattern_checks.proofs.scoped_paths.check_paths.Given as goal

abbrev pub invariant-loop-path : goal.invariant-loop-path
invariant-loop-path l =
    refused_in_paths l.walk.question l.walk.columns.now l.before l.names.variables (map path_data (drop l.path-index l.paths))
    ≡ refused_in_paths l.walk.question l.walk.columns.now [] l.names.variables (map path_data l.paths)
