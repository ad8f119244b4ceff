-- The variables of an INSERT in the order of the text, and the columns behind a clause that changes data.
use Rattle.std.specs.Prelude.{ℕ, List, [], ◌∷◌, ◌++◌, Option, Some, None, if◌then◌else◌}
use Rattle.std.specs.List.{flat_map}
use Rattle.gql_values3.specs.declared.table.ColumnKind.{ColumnKind}
use Rattle.gql_values3.specs.declared.table.ColumnKind.TheVariants as kind
use Rattle.gql_ast.specs.ClauseColumns.{ColumnList, is_column}
use Rattle.gql_ast.specs.declared.change.ChangeClause.{ChangeClause}
use Rattle.gql_ast.specs.declared.change.ChangeClause.TheVariants as change
use Rattle.gql_ast.specs.declared.change.Fill.{Fill}
use Rattle.gql_ast.specs.declared.change.InsertPath.{InsertPath}
use Rattle.gql_ast.specs.declared.change.InsertStep.{InsertStep}

-- the nodes and edges of an INSERT: which of both it is, and what stands between its brackets
abbrev pub Spots : Type 0
Spots = List (ColumnKind × Fill)

-- an edge stands before the node to which it leads
abbrev pub step_spots : InsertStep → Spots
step_spots s = (kind.Edge, s.edge) ∷ (kind.Node, s.node) ∷ []

-- the first node of a path to be inserted, and then its steps in order
abbrev pub path_spots : InsertPath → Spots
path_spots p = (kind.Node, p.start) ∷ flat_map step_spots p.steps

-- the nodes and edges of all paths of an INSERT
abbrev pub insert_spots : List InsertPath → Spots
insert_spots ps = flat_map path_spots ps

-- a variable that is no column yet becomes one
abbrev pub with_variable : ColumnList → ColumnKind → Option (List ℕ) → ColumnList
with_variable columns k None = columns
with_variable columns k (Some x) = if is_column columns x then columns else columns ++ (x, k) ∷ []

-- the columns with the variables of these nodes and edges, each behind those before
abbrev pub spot_columns : ColumnList → Spots → ColumnList
spot_columns columns [] = columns
spot_columns columns (s ∷ ss) = spot_columns (with_variable columns s.0 s.1.variable) ss

-- INSERT gives the columns of its new variables, the others none
abbrev pub change_columns : ColumnList → ChangeClause → ColumnList
change_columns columns (change.Insert ps) = spot_columns columns (insert_spots ps)
change_columns columns _ = columns
