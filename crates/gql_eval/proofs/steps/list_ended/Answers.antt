use Rattle.std.proofs.Common.{rules, ◌≡◌, ◌∙◌, ap}
use Rattle.gql_values3.specs.Meaning.{datum_of}
use Rattle.gql_ast.specs.Operators.{made_list}
use Rattle.gql_eval.specs.Machinery.Steps.{list_ended}
use Rattle.gql_eval.proofs.ItemLemmas.{items_again}
use Rattle.gql_eval.proofs.steps.list_ended.Goals as goal

pub returns-in_err-list_value-in-List : goal.returns-in_err-list_value-in-List
returns-in_err-list_value-in-List c =
    let same : list_ended (datum_of c.args.list) ≡ made_list c.in-List.items = ap (λ l. list_ended (datum_of l)) c.in-List.is ∙ ap made_list (items_again c.in-List.items) in
    rw same (search rules)

pub returns-in-List : goal.returns-in-List
returns-in-List c = ap (λ l. list_ended (datum_of l)) c.in-List.is ∙ ap made_list (items_again c.in-List.items) ∙ c.in_ok-list_value-in-List.ensures
