use Rattle.std.proofs.Common.{◌∙◌, ap}
use Rattle.gql_expr_checks.specs.Repeated.{is_among}
use Rattle.gql_expr_checks.proofs.NameListLemmas.{among_keys}
use Rattle.gql_expr_checks.proofs.name_list.NameList.contains.Goals as goal

pub returns : goal.returns
returns c =
    c.contains.ensures ∙ among_keys c.as_str.result.now c.self.inside.set.keys
    ∙ ap (λ names. is_among names c.as_str.result.now) c.self.view_is ∙ ap (λ x. is_among c.args.self.now x) c.as_str.ensures
