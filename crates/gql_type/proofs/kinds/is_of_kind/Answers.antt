use Rattle.std.proofs.Common.{◌≡◌, sym, ap, ◌∙◌, map}
use Rattle.std.specs.List.{list_all}
use Rattle.std.proofs.lemmas.List.Folds.{list_all-map}
use Rattle.gql_values3.specs.Datum.{Datum, data_of, items_of}
use Rattle.gql_values3.specs.Meaning.{datum_of}
use Rattle.gql_values3.proofs.EqualityLemmas.{items_of-data_of}
use Rattle.gql_type.specs.PropertyKinds.{is_item, is_of_kind}
use Rattle.gql_type.proofs.kinds.is_of_kind.Goals as goal

pub returns-in-Many-List : goal.returns-in-Many-List
returns-in-Many-List c =
    let test : Datum → _ = is_item c.in-Many-List.item c.in-Many-List.required in
    let items : map datum_of c.as_slice.result.now ≡ items_of (data_of c.in-Many-List.list) = c.as_slice.ensures ∙ sym (items_of-data_of c.in-Many-List.list) in
    c.are_items.ensures ∙ sym (list_all-map test datum_of c.as_slice.result.now) ∙ ap (list_all test) items
    ∙ λ i. is_of_kind (sym c.in-Many-List.is-0 i) (datum_of (sym c.in-Many-List.is-1 i))
