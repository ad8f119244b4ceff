-- An INSERT that the static checks let through, over rows that fit their columns: the guard of its definition never refuses
-- it. What grants the premise is E09 KIND, which refuses the first endpoint that is a column of another kind than a node's.
use Rattle.std.specs.Prelude.{◌≡◌, ◌↔◌, ℕ, List, [], ◌∷◌, Option, Some, IsTrue}
use Rattle.gql_values3.specs.Datum.{Datum}
use Rattle.gql_values3.specs.PropertyGraph.{PropertyGraph}
use Rattle.gql_values3.specs.declared.table.ColumnKind.{ColumnKind}
use Rattle.gql_values3.specs.declared.table.ColumnKind.TheVariants as kind
use Rattle.gql_ast.specs.Outputs.{kind_of_name}
use Rattle.gql_ast.specs.ClauseColumns.{ColumnList, is_column}
use Rattle.gql_ast.specs.InsertColumns.{Spots, insert_spots, with_variable}
use Rattle.gql_ast.specs.Endpoints.{wrong_in_spots}
use Rattle.gql_ast.specs.declared.change.ChangeClause.TheVariants as change
use Rattle.gql_ast.specs.declared.change.InsertPath.{InsertPath}
use Rattle.gql_eval.specs.RowLists.{RowList, rows_fit}
use Rattle.gql_change.specs.Changing.{change_of, changed_by_insert, has_endpoints}

-- a node's variable that is a column is a column of nodes; nothing is asked of an edge
abbrev pub NamesNode : ColumnList → ColumnKind → Option (List ℕ) → Type 0
NamesNode columns kind.Node (Some x) = IsTrue (is_column columns x) → kind_of_name columns x ≡ kind.Node
NamesNode columns _ _ = Unit {0}

-- each under the columns that the spots before it gave
abbrev pub EndpointsAreNodes : ColumnList → Spots → Type 0
EndpointsAreNodes columns [] = Unit {0}
EndpointsAreNodes columns (s ∷ ss) = NamesNode columns s.0 s.1.variable × EndpointsAreNodes (with_variable columns s.0 s.1.variable) ss

-- that is what is granted where no endpoint is at fault
abbrev pub NoneIsWrong : Type 0
NoneIsWrong = (columns : ColumnList) (ps : List InsertPath) → (wrong_in_spots columns (insert_spots ps) ≡ []) ↔ EndpointsAreNodes columns (insert_spots ps)

-- the guard holds
abbrev pub GuardHolds : Type 0
GuardHolds = (columns : ColumnList) (rows : RowList) (ps : List InsertPath) → IsTrue (rows_fit columns rows) → EndpointsAreNodes columns (insert_spots ps)
    → IsTrue (has_endpoints columns rows ps)

-- so the clause comes to what the insertion comes to
abbrev pub GuardIsPassed : Type 0
GuardIsPassed = (g : PropertyGraph) (params : List (List ℕ × Datum)) (columns : ColumnList) (rows : RowList) (ps : List InsertPath) → IsTrue (rows_fit columns rows)
    → EndpointsAreNodes columns (insert_spots ps) → change_of g params columns rows (change.Insert ps) ≡ changed_by_insert g params columns rows ps
