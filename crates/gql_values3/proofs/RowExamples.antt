-- Rows that fit columns, and rows that do not: the definitions, computed.
use Rattle.std.proofs.Common.{◌≡◌, ℕ, true, false, List, [], ◌∷◌, refl}
use Rattle.std.specs.Prelude.{codes, pos}
use Rattle.gql_values3.specs.declared.table.ColumnKind.{ColumnKind}
use Rattle.gql_values3.specs.declared.table.ColumnKind.TheVariants as kind
use Rattle.gql_values3.specs.Datum.{null, integer, list, node, edge, data_of}
use Rattle.gql_values3.specs.Rows.{fits_columns, fits_kind}
use Rattle.gql_values3.specs.Nesting.{is_shallow}

abbrev columns : List (List ℕ × ColumnKind)
columns = (codes "a", kind.Node) ∷ (codes "es", kind.Edges) ∷ (codes "x", kind.Plain) ∷ []

pub elements_fit : fits_columns columns (node 1 ∷ list (data_of (edge 1 ∷ edge 2 ∷ [])) ∷ integer (pos 3) ∷ []) ≡ true
elements_fit = refl

pub nulls_fit : fits_columns columns (null ∷ null ∷ null ∷ []) ≡ true
nulls_fit = refl

pub an_edge_is_no_node : fits_columns columns (edge 1 ∷ null ∷ null ∷ []) ≡ false
an_edge_is_no_node = refl

pub null_is_no_edge_of_a_list : fits_kind kind.Edges (list (data_of (edge 1 ∷ null ∷ []))) ≡ false
null_is_no_edge_of_a_list = refl

pub a_value_is_missing : fits_columns columns (node 1 ∷ null ∷ []) ≡ false
a_value_is_missing = refl

pub a_name_stands_twice : fits_columns ((codes "a", kind.Plain) ∷ (codes "a", kind.Plain) ∷ []) (null ∷ null ∷ []) ≡ false
a_name_stands_twice = refl

pub an_empty_list_is_shallow : is_shallow (list (data_of [])) ≡ true
an_empty_list_is_shallow = refl
