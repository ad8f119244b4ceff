use Rattle.std.proofs.Common.{◌∙◌, sym, ap, take}
use Rattle.std.proofs.lemmas.List.{take-map}
use Rattle.gql_values3.specs.Meaning.{datum_of}
use Rattle.gql_table.proofs.ordering.shown_row.Goals as goal

pub returns-in-Some : goal.returns-in-Some
returns-in-Some c =
    rw (c.in-Some.is, c.from_vec.ensures, c.truncate.ensures.items)
    (sym (take-map datum_of c.in-Some.count c.into_vec-values.result.items) ∙ ap (take c.in-Some.count) c.into_vec-values.ensures)
