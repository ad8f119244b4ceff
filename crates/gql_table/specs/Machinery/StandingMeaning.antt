-- What the code holds of an aggregate, as grouping runs.
use Rattle.std.specs.Prelude.{Option, Some, None}
use Rattle.gql_values3.specs.Datum.{Datum}
use Rattle.gql_values3.specs.Meaning.{datum_of}
use Rattle.gql_values3.specs.declared.value.Value.{Value}
use Rattle.gql_table.specs.Machinery.Running.{Standing, counting, summing, lowest, highest, listing}
use Rattle.gql_table.specs.declared.running.Running.{Running}
use Rattle.gql_table.specs.declared.running.Running.TheVariants as running

abbrev pub datum_in : Option Value → Option Datum
datum_in None = None
datum_in (Some v) = Some (datum_of v)

abbrev pub standing_of : Running → Standing
standing_of (running.Count n) = counting n
standing_of (running.Sum s) = summing s
standing_of (running.Least best) = lowest (datum_in best)
standing_of (running.Greatest best) = highest (datum_in best)
standing_of (running.Listed makes over values) = listing makes over values
