use Rattle.std.proofs.Common.{◌≡◌, ◌∙◌, List, Ok, ap}
use Rattle.gql_values3.specs.Datum.{Datum}
use Rattle.gql_values3.specs.Meaning.{datum_of}
use Rattle.gql_table.specs.For.{rows_over, item_rows, start_count}
use Rattle.gql_table.specs.Machinery.Preparations.{prepared_value}
use Rattle.gql_eval.proofs.EachSteps.{gives_second}
use Rattle.gql_table.proofs.for_clause.rows_of_row.Goals as goal
use Rattle.gql_values3.proofs.EqualityLemmas.{items_of-data_of}

pub returns-in-List : goal.returns-in-List
returns-in-List g c =
    let clause = c.args.clause.now in
    let row : List Datum = c.args.row.now in
    let given : prepared_value (g.V.View.graph c.args.view.now) c.args.list.now row ≡ Ok (datum_of c.in_ok-value.value) = rw c.as_slice.ensures at c.in_ok-value.ensures in
    let whole : rows_over clause row (datum_of c.in_ok-value.value) ≡ item_rows clause.counter (start_count clause.counter) row c.in-List.items =
    ap (λ v. rows_over clause row (datum_of v)) c.in-List.is ∙ ap (λ (ds : List Datum). item_rows clause.counter (start_count clause.counter) row ds) (items_of-data_of c.in-List.items) in
    gives_second (λ (r : List (List Datum)). r) c.rows_of_items.result _ (datum_of c.in_ok-value.value) (rows_over clause row) given (rw whole c.rows_of_items.ensures)
