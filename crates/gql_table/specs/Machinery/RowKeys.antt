-- The keys of groups, what is hashed of them, and the maps of them.
use Rattle.std.specs.Prelude.{◌≡◌, ℕ, List, [], ◌∷◌, ◌++◌, IsTrue}
use Rattle.std.specs.List.{flat_map}
use Rattle.std.specs.Ordering.{on, eq_by_cmp, is_eq}
use Rattle.std.specs.Hash as fed
use Rattle.std.specs.Hash.{HashWrites}
use Rattle.std.specs.HashMap.{HashMap, get}
use Rattle.std.specs.Cmp.Lexicographic.{slice_cmp}
use Rattle.std.specs.declared.cmp.Ordering.{Ordering}
use Rattle.std.specs.declared.cmp.Ordering.TheVariants.{Less, Equal, Greater}
use Rattle.std.proofs.Common.{ap, refl}
use Rattle.gql_values3.specs.Datum.{Datum, Data, null, boolean, integer, text, list, node, edge, path, no_data, more_data}
use Rattle.gql_values3.specs.ValueOrder.{datum_cmp}
use Rattle.gql_values3.proofs.OrderLaws.{exact_datum, exact_lists}
use Rattle.gql_eval.specs.RowLists.{RowList}
use Rattle.gql_table.specs.Machinery.Places.{found_place}
use Rattle.gql_table.specs.declared.row_key.RowKey.{RowKey}

abbrev pub key_row : RowKey → List Datum
key_row k = k.row

-- what is hashed of a path's step
abbrev pub hashed_step : ℕ × ℕ → HashWrites
hashed_step s = fed.u32 s.0 ++ fed.u32 s.1

-- what is hashed of a value, and of the items of a list in turn
abbrev mutual
  pub hashed : Datum → HashWrites
  hashed null = fed.u8 0
  hashed (boolean b) = fed.bool b
  hashed (integer z) = fed.i64 z
  hashed (text t) = t ∷ []
  hashed (list ds) = hashed_items ds
  hashed (node n) = fed.u32 n
  hashed (edge n) = fed.u32 n
  hashed (path w) = fed.u32 w.start ++ fed.slice hashed_step w.steps

  pub hashed_items : Data → HashWrites
  hashed_items no_data = []
  hashed_items (more_data d ds) = hashed d ++ hashed_items ds

-- what is hashed of a row: of each value in turn
abbrev pub hashed_row : List Datum → HashWrites
hashed_row row = flat_map hashed row

equal_if : (o : Ordering) → IsTrue (is_eq o) → o ≡ Equal
equal_if Less p = cc
equal_if Equal p = refl
equal_if Greater p = cc

-- equal keys are hashed alike
pub hashed_alike : (a b : RowKey) → IsTrue (eq_by_cmp (on key_row (slice_cmp datum_cmp)) a b) → hashed_row (key_row a) ≡ hashed_row (key_row b)
hashed_alike a b same =
    ap hashed_row (exact_lists exact_datum (key_row a) (key_row b) (equal_if (slice_cmp datum_cmp (key_row a) (key_row b)) same))

-- the map has the place of each of these keys, and no other key
abbrev pub HasKeys : {S : Type 0} → HashMap RowKey ℕ S → RowList → Type 0
HasKeys m ks = (q : RowKey) → get (eq_by_cmp (on key_row (slice_cmp datum_cmp))) m q ≡ found_place ks (key_row q)
