use Rattle.std.proofs.Common.{◌≡◌, map, drop}
use Rattle.gql_norm.specs.NormalData.{path_data}
use Rattle.gql_pattern_checks.specs.Machinery.PartWalk.{asked_of_paths}
use Rattle.gql_pattern_checks.proofs.walk.ask_paths.Given as goal

abbrev pub invariant-loop-path : goal.invariant-loop-path
invariant-loop-path g l =
    asked_of_paths (g.Q.Question.of_element l.question) (g.Q.Question.of_condition l.question) (map path_data (drop l.path-index l.paths))
    ≡ asked_of_paths (g.Q.Question.of_element l.question) (g.Q.Question.of_condition l.question) (map path_data l.paths)
