-- Rows of a table: which columns there may be, and which data fit them.
use Rattle.std.specs.Prelude.{ℕ, Bool, true, false, ◌&&◌, List, [], ◌∷◌, map}
use Rattle.std.specs.List.{list_all}
use Rattle.gql_values3.specs.declared.table.ColumnKind.{ColumnKind}
use Rattle.gql_values3.specs.declared.table.ColumnKind.TheVariants as kind
use Rattle.gql_values3.specs.Datum.{Datum, null, list, node, edge, path, items_of}
use Rattle.gql_values3.specs.Texts.{texts_differ}

-- the datum is a node
abbrev pub is_node : Datum → Bool
is_node (node n) = true
is_node _ = false

-- the datum is an edge
abbrev pub is_edge : Datum → Bool
is_edge (edge e) = true
is_edge _ = false

-- the datum is a path
abbrev pub is_path : Datum → Bool
is_path (path w) = true
is_path _ = false

-- a list whose items all pass the test
abbrev pub is_list_of : (Datum → Bool) → Datum → Bool
is_list_of test (list ds) = list_all test (items_of ds)
is_list_of test _ = false

-- what is not NULL in a column
abbrev pub is_of_kind : ColumnKind → Datum → Bool
is_of_kind kind.Node d = is_node d
is_of_kind kind.Edge d = is_edge d
is_of_kind kind.Nodes d = is_list_of is_node d
is_of_kind kind.Edges d = is_list_of is_edge d
is_of_kind kind.Path d = is_path d
is_of_kind kind.Plain d = true

-- NULL fits each column
abbrev pub fits_kind : ColumnKind → Datum → Bool
fits_kind k null = true
fits_kind k d = is_of_kind k d

-- as many values as kinds, and each fits its own
abbrev pub fit_kinds : List ColumnKind → List Datum → Bool
fit_kinds [] [] = true
fit_kinds [] (d ∷ ds) = false
fit_kinds (k ∷ ks) [] = false
fit_kinds (k ∷ ks) (d ∷ ds) = fits_kind k d && fit_kinds ks ds

-- the columns' names differ
abbrev pub are_columns : List (List ℕ × ColumnKind) → Bool
are_columns columns = texts_differ (map (λ c. c.0) columns)

-- the row fits the columns, whose names differ
abbrev pub fits_columns : List (List ℕ × ColumnKind) → List Datum → Bool
fits_columns columns row = are_columns columns && fit_kinds (map (λ c. c.1) columns) row
