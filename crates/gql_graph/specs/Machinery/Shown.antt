-- A property as the code has it, and what it means.
use Rattle.std.specs.Prelude.{ℕ, List}
use Rattle.gql_values3.specs.Datum.{Datum}
use Rattle.gql_values3.specs.Meaning.{datum_of}
use Rattle.gql_values3.specs.declared.value.Value.{Value}

-- what a pair of a name and a value means
abbrev pub shown : List ℕ × Value → List ℕ × Datum
shown p = (p.0, datum_of p.1)
