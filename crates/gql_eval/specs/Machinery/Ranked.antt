-- A value as a key in the total order.
use Rattle.gql_values3.specs.Datum.{Datum}
use Rattle.gql_values3.specs.Meaning.{datum_of}
use Rattle.gql_eval.specs.declared.ranked.Ranked.{Ranked}

abbrev pub ranked_datum : Ranked → Datum
ranked_datum r = datum_of r.value.now
