use Rattle.std.proofs.Common.{map, ap, sym, subst, ◌∙◌}
use Rattle.std.specs.Option.{option_or}
use Rattle.gql_ast.specs.declared.refusal.Refusal.TheVariants as refusal
use Rattle.gql_expr_checks.specs.Gives.{Gives}
use Rattle.gql_expr_checks.specs.Refusals.{refusal_of_first}
use Rattle.gql_expr_checks.proofs.RefusalLemmas.{gives_fault, stops, goes_on}
use Rattle.gql_norm.specs.NormalData.{path_data, pattern_data}
use Rattle.gql_norm.specs.OtherDefects.{unset_parameters}
use Rattle.gql_pattern_checks.specs.Machinery.PartWalk.{if_there, asked_of_paths}
use Rattle.gql_pattern_checks.specs.Machinery.Questions.{unset_in_element, unset_in_condition}
use Rattle.gql_pattern_checks.proofs.ParameterLemmas.{unset_in_pattern}
use Rattle.gql_pattern_checks.proofs.parameters.check_pattern_parameters.Goals as goal

pub returns-in_err-ask_paths : goal.returns-in_err-ask_paths
returns-in_err-ask_paths c =
    let params = c.args.params.now in
    let pattern = pattern_data c.args.pattern.now in
    let here = asked_of_paths (unset_in_element params) (unset_in_condition params) (map path_data c.as_slice.result.now) in
    let behind = if_there (unset_in_condition params) pattern.condition in
    let whole = refusal_of_first refusal.Parameter (unset_parameters params pattern) in
    let cut = unset_in_pattern params pattern
    ∙ ap (λ paths. option_or (asked_of_paths (unset_in_element params) (unset_in_condition params) (map path_data paths)) behind) (sym c.as_slice.ensures) in
    gives_fault c.from_residual.result c.in_err-ask_paths.field-0.0 whole c.from_residual.ensures.0 c.from_residual.ensures.1
    (stops c.in_err-ask_paths.field-0.0 here behind whole c.in_err-ask_paths.ensures cut)

pub returns : goal.returns
returns c =
    let params = c.args.params.now in
    let pattern = pattern_data c.args.pattern.now in
    let here = asked_of_paths (unset_in_element params) (unset_in_condition params) (map path_data c.as_slice.result.now) in
    let behind = if_there (unset_in_condition params) pattern.condition in
    let whole = refusal_of_first refusal.Parameter (unset_parameters params pattern) in
    let cut = unset_in_pattern params pattern
    ∙ ap (λ paths. option_or (asked_of_paths (unset_in_element params) (unset_in_condition params) (map path_data paths)) behind) (sym c.as_slice.ensures) in
    subst (λ o. Gives c.ask_if_there.result o) (sym (goes_on here behind whole c.in_ok-ask_paths.ensures cut)) c.ask_if_there.ensures
