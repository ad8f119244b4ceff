use Rattle.std.proofs.Common.{◌∙◌, map, length, sym, ap}
use Rattle.gql_values3.specs.Meaning.{datum_of}
use Rattle.gql_table.specs.Machinery.Running.{finished}
use Rattle.gql_table.specs.Machinery.StandingMeaning.{standing_of}
use Rattle.gql_table.proofs.ReturnLemmas.{map_long, each_length}
use Rattle.gql_table.proofs.group_rows.group_row.Goals as goal

pub item_values-requires-after_bounds : goal.item_values-requires-after_bounds
item_values-requires-after_bounds g c κs within =
    sym (map_long datum_of c.as_slice-3.result.now) ∙ ap length c.as_slice-3.ensures
    ∙ each_length finished (map standing_of c.as_slice.result.now) c.in_ok-results.results c.in_ok-results.ensures
    ∙ ap (λ l. length (map standing_of l)) c.as_slice.ensures.value ∙ c.requires.wide
