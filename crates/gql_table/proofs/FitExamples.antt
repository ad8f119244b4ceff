-- Rows that fit, and why a grouped `*` asks for columns of different names.
use Rattle.std.proofs.Common.{◌≡◌, ℕ, true, false, List, [], ◌∷◌, Some, None, Ok, codes, refl}
use Rattle.gql_values3.specs.Datum.{Datum, null, list, node, edge, data_of}
use Rattle.gql_values3.specs.PropertyGraph.{PropertyGraph}
use Rattle.gql_values3.specs.declared.table.ColumnKind.TheVariants as kind
use Rattle.gql_ast.specs.Evaluation.{value_of}
use Rattle.gql_ast.specs.RowAggregates.{row_aggregates}
use Rattle.gql_ast.specs.declared.clause.Clause.{Clause}
use Rattle.gql_ast.specs.declared.clause.Clause.TheVariants as clause
use Rattle.gql_ast.specs.declared.projection.ReturnItems.TheVariants as items
use Rattle.gql_ast.specs.declared.words.SetQuantifier.TheVariants as quantifier
use Rattle.gql_ast.specs.ClauseColumns.{ColumnList}
use Rattle.gql_eval.specs.RowLists.{RowList}
use Rattle.gql_table.specs.Clauses.{table_after}
use Rattle.gql_table.specs.Fitting.{names_serve}
use Rattle.gql_eval.specs.RowLists.{rows_fit}

-- a list of nodes, and NULL, in a column of nodes
pub nodes_fit : rows_fit ((codes "x", kind.Nodes) ∷ []) ((list (data_of (node 1 ∷ node 2 ∷ [])) ∷ []) ∷ (null ∷ []) ∷ []) ≡ true
nodes_fit = refl

-- but no NULL within the list
pub no_null_within : rows_fit ((codes "x", kind.Nodes) ∷ []) ((list (data_of (node 1 ∷ null ∷ [])) ∷ []) ∷ []) ≡ false
no_null_within = refl

-- a node and an edge under one name
abbrev one_name : ColumnList
one_name = (codes "x", kind.Node) ∷ (codes "x", kind.Edge) ∷ []

abbrev one_row : RowList
one_row = (node 1 ∷ edge 2 ∷ []) ∷ []

-- RETURN * GROUP BY x
abbrev grouped : Clause
grouped = clause.Return (record { quantifier = quantifier.All; items = items.All; grouping = Some (codes "x" ∷ []); order = None; skip = None; limit = None })

pub they_fit : rows_fit one_name one_row ≡ true
they_fit = refl

-- both columns get the node
pub both_are_the_first : (g : PropertyGraph) (params : List (List ℕ × Datum)) → table_after g params one_name grouped one_row ≡ Ok (one_name, (node 1 ∷ node 1 ∷ []) ∷ [])
unfolding value_of row_aggregates
both_are_the_first g params = refl

-- which is no edge; the names differ in what is not refused before
pub the_second_does_not_fit : rows_fit one_name ((node 1 ∷ node 1 ∷ []) ∷ []) ≡ false
the_second_does_not_fit = refl

pub names_do_not_serve : names_serve one_name grouped ≡ false
names_do_not_serve = refl
