-- Rows as keys in an order, and maps of them.
use Rattle.std.specs.Prelude.{◌≡◌, ℕ, List}
use Rattle.std.specs.Ordering.{on}
use Rattle.std.specs.BTreeMap.{BTreeMap, get}
use Rattle.std.specs.Cmp.Lexicographic.{slice_cmp}
use Rattle.gql_values3.specs.Datum.{Datum}
use Rattle.gql_values3.specs.ValueOrder.{datum_cmp}
use Rattle.gql_eval.specs.RowLists.{RowList}
use Rattle.gql_table.specs.Machinery.Places.{found_place}
use Rattle.gql_table.specs.declared.ranked.Ranked.{Ranked}

abbrev pub ranked_row : Ranked → List Datum
ranked_row r = r.row.now

-- the map has the place of each of these rows, and no other row
abbrev pub HasPlaces : BTreeMap Ranked ℕ → RowList → Type 0
HasPlaces m ks = (q : Ranked) → get (on ranked_row (slice_cmp datum_cmp)) m q ≡ found_place ks (ranked_row q)
