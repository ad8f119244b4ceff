use Rattle.std.proofs.Common.{◌≡◌, ◌++◌, ◌∷◌, [], map}
use Rattle.gql_values3.specs.Meaning.{datum_of}
use Rattle.gql_values3.specs.Datum.{Datum}
use Rattle.gql_table.proofs.for_clause.plain_rows.Given as goal

abbrev pub invariant-loop-item : goal.invariant-loop-item
invariant-loop-item l = l.rows ≡ map (λ (d : Datum). l.row ++ d ∷ []) (map datum_of l.yielded)
