use Rattle.std.proofs.Common.{◌≡◌, ◌∙◌, ap, sym, [], ◌∷◌, ◌++◌, Ok}
use Rattle.gql_values3.specs.Datum.{list, data_of}
use Rattle.gql_values3.specs.Meaning.{datum_of}
use Rattle.gql_eval.specs.Machinery.Steps.{with_item_behind}
use Rattle.gql_eval.proofs.ItemLemmas.{items_again}
use Rattle.gql_eval.proofs.steps.with_value_behind.Goals as goal

pub returns-in-List : goal.returns-in-List
returns-in-List c =
    ap (λ l. with_item_behind (datum_of l) (datum_of c.args.item)) c.in-List.is
    ∙ ap (λ is. Ok (list (data_of (is ++ datum_of c.args.item ∷ [])))) (items_again c.in-List.items)
    ∙ ap (λ is. Ok (list (data_of is))) (sym c.in_ok-push-in-List.ensures.ok)
