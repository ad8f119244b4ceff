use Rattle.std.proofs.Common.{None, map, ap, sym, subst, ◌∙◌}
use Rattle.gql_expr_checks.specs.Gives.{Gives}
use Rattle.gql_norm.specs.NormalData.{path_data, pattern_data}
use Rattle.gql_pattern_checks.specs.Machinery.PartWalk.{asked_of_paths}
use Rattle.gql_pattern_checks.specs.Machinery.Questions.{repeated_in_element}
use Rattle.gql_pattern_checks.proofs.PropertyLemmas.{repeated_in_pattern}
use Rattle.gql_pattern_checks.proofs.properties.check_pattern_properties.Goals as goal

pub returns : goal.returns
returns c =
    subst (λ o. Gives c.ask_paths.result o)
    (ap (λ paths. asked_of_paths repeated_in_element (λ e. None) (map path_data paths)) c.as_slice.ensures ∙ sym (repeated_in_pattern (pattern_data c.args.pattern.now)))
    c.ask_paths.ensures
