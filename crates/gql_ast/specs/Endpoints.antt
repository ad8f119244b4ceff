-- The endpoints of an INSERT: a variable of a node that stands already has to be a column of nodes. Here stand the variables
-- that are none, in the order of the text.
use Rattle.std.specs.Prelude.{ℕ, Bool, true, false, not, ◌&&◌, List, [], ◌∷◌, ◌++◌, Option, Some, if◌then◌else◌}
use Rattle.gql_values3.specs.declared.table.ColumnKind.{ColumnKind}
use Rattle.gql_values3.specs.declared.table.ColumnKind.TheVariants as kind
use Rattle.gql_ast.specs.Outputs.{kind_of_name}
use Rattle.gql_ast.specs.ClauseColumns.{ColumnList, is_column}
use Rattle.gql_ast.specs.InsertColumns.{Spots, with_variable}

-- a column of nodes
abbrev pub is_node : ColumnKind → Bool
is_node kind.Node = true
is_node _ = false

-- an endpoint that stands already is a node
abbrev pub wrong_endpoint : ColumnList → ColumnKind → Option (List ℕ) → List (List ℕ)
wrong_endpoint columns kind.Node (Some x) = if is_column columns x && not (is_node (kind_of_name columns x)) then x ∷ [] else []
wrong_endpoint columns _ _ = []

-- each under the columns that the spots before it gave
abbrev pub wrong_in_spots : ColumnList → Spots → List (List ℕ)
wrong_in_spots columns [] = []
wrong_in_spots columns (s ∷ ss) = wrong_endpoint columns s.0 s.1.variable ++ wrong_in_spots (with_variable columns s.0 s.1.variable) ss
