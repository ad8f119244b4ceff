-- A query: its clauses act one after the other, each on the graph and the table that the one before left. The first
-- refusal ends it. A selector may leave MATCH a choice, so a query may run in more than one way.
use Rattle.std.specs.Prelude.{◌≡◌, ℕ, Bool, List, [], ◌∷◌, map, Option, Some, None, Result, Ok, Err, if◌then◌else◌}
use Rattle.std.specs.List.{list_any}
use Rattle.gql_values3.specs.Datum.{Datum}
use Rattle.gql_values3.specs.PropertyGraph.{PropertyGraph}
use Rattle.gql_values3.specs.declared.table.ColumnKind.{ColumnKind}
use Rattle.gql_values3.specs.declared.table.Table.{Table}
use Rattle.gql_ast.specs.Faults.{◌>>=◌}
use Rattle.gql_ast.specs.ClauseColumns.{ColumnList}
use Rattle.gql_ast.specs.InsertColumns.{change_columns}
use Rattle.gql_ast.specs.LastClause.{is_change, ends_in_change}
use Rattle.gql_ast.specs.declared.clause.Clause.{Clause}
use Rattle.gql_ast.specs.declared.clause.Clause.TheVariants as clause
use Rattle.gql_ast.specs.declared.clause.Match.{Match}
use Rattle.gql_ast.specs.declared.clause.Query.{Query}
use Rattle.gql_ast.specs.declared.fault.DataFault.{DataFault}
use Rattle.gql_ast.specs.declared.refusal.Refusal.{Refusal}
use Rattle.gql_ast.specs.declared.refusal.Refusal.TheVariants as refusal
use Rattle.gql_eval.specs.RowLists.{RowList}
use Rattle.gql_norm.specs.MatchTable.{IsMatchTable}
use Rattle.gql_norm.specs.NewColumns.{columns_after}
use Rattle.gql_norm.specs.NormalForm.{normal_form}
use Rattle.gql_table.specs.Clauses.{table_after}
use Rattle.gql_change.specs.Changing.{Changed, change_of}

-- columns and rows between clauses
abbrev pub WorkingTable : Type 0
WorkingTable = ColumnList × RowList

-- the graph, columns and rows between clauses
pub record Working : Type 0 where
  pub graph : PropertyGraph
  pub columns : ColumnList
  pub rows : RowList

-- a query begins with one row without columns
abbrev pub beginning : PropertyGraph → Working
beginning g = record { graph = g; columns = []; rows = [] ∷ [] }

-- what a query shows: the names of its columns, and its rows
abbrev pub shown_table : Working → Table
shown_table t = record { columns = map (λ (c : List ℕ × ColumnKind). c.0) t.columns; rows = t.rows }

-- a clause that reads leaves the graph; its first fault refuses the query (E18)
abbrev pub with_table : PropertyGraph → Result WorkingTable DataFault → Result Working Refusal
with_table g (Ok t) = Ok (record { graph = g; columns = t.0; rows = t.1 })
with_table g (Err f) = Err (refusal.Fault f)

-- a clause that changes data leaves another graph
abbrev pub with_change : ColumnList → Result Changed Refusal → Result Working Refusal
with_change columns (Ok c) = Ok (record { graph = c.0; columns = columns; rows = c.1 })
with_change columns (Err r) = Err r

-- the rows under their columns, or the fault
abbrev pub under_columns : ColumnList → Result RowList DataFault → Result WorkingTable DataFault
under_columns columns rows = rows >>= λ rs. Ok (columns, rs)

-- what MATCH may give behind a table: some match table of its pattern's normal form, under the columns behind it
abbrev pub MatchesTo : PropertyGraph → List (List ℕ × Datum) → WorkingTable → Match → Result WorkingTable DataFault → Type 0
MatchesTo g params t m result =
    (rows : Result RowList DataFault) × IsMatchTable g params t.0 (normal_form m.pattern) m.optional t.1 rows × (result ≡ under_columns (columns_after t.0 (normal_form m.pattern)) rows)

-- a refusal is the result; behind a clause that is answered come the others
abbrev pub ThenRest : (Working → Type 0) → Result Working Refusal → Result Working Refusal → Type 0
ThenRest Rest result (Ok u) = Rest u
ThenRest Rest result (Err r) = result ≡ Err r

module _ (params : List (List ℕ × Datum)) where
  -- what one clause may lead to; all but MATCH lead to one result
  abbrev pub MayLeadTo : Working → Clause → Result Working Refusal → Type 0
  MayLeadTo t (clause.Match m) result = (table : Result WorkingTable DataFault) × MatchesTo t.graph params (t.columns, t.rows) m table × (result ≡ with_table t.graph table)
  MayLeadTo t (clause.Change c) result = result ≡ with_change (change_columns t.columns c) (change_of t.graph params t.columns t.rows c)
  MayLeadTo t c result = result ≡ with_table t.graph (table_after t.graph params t.columns c t.rows)

  -- what clauses may lead to, one after the other
  abbrev pub MayRun : Working → List Clause → Result Working Refusal → Type 0
  MayRun t [] result = result ≡ Ok t
  MayRun t (c ∷ cs) result = (behind : Result Working Refusal) × MayLeadTo t c behind × ThenRest (λ u. MayRun u cs result) result behind

-- the graph and the table to which a query may lead that begins on this graph, or a refusal in which it may end
abbrev pub QueryMayRun : PropertyGraph → List (List ℕ × Datum) → Query → Result Working Refusal → Type 0
QueryMayRun g params q result = MayRun params (beginning g) q.clauses result

-- some clause of the query changes data
abbrev pub changes_data : Query → Bool
changes_data q = list_any is_change q.clauses

-- a query that ends in a change shows no table
abbrev pub answer_table : Query → Working → Option Table
answer_table q t = if ends_in_change q.clauses then None else Some (shown_table t)
