-- A row whose first values are the output, where the others are there for sort keys alone.
use Rattle.std.specs.Prelude.{ℕ, List, take, Option, Some, None}
use Rattle.gql_values3.specs.Datum.{Datum}
use Rattle.gql_table.specs.Paging.{Sortable}

-- the output of a row: the whole row, or so many values of it
abbrev pub shown : Option ℕ → List Datum → List Datum
shown None row = row
shown (Some width) row = take width row

-- the output, and the row that sort keys see
abbrev pub seen : Option ℕ → List Datum → Sortable
seen width row = (shown width row, row)
