-- Columns as a walk over normal patterns gathers them: one by one, each unless its name stands already.
use Rattle.std.specs.Prelude.{ℕ, List, [], ◌∷◌, ◌++◌, map, Option, Some, None, if◌then◌else◌}
use Rattle.gql_values3.specs.declared.table.ColumnKind.{ColumnKind}
use Rattle.gql_values3.specs.declared.table.ColumnKind.TheVariants as kind
use Rattle.gql_ast.specs.ClauseColumns.{ColumnList, is_column}
use Rattle.gql_norm.specs.NormalPattern.{Part, Node, Edge, Concat, Union, Alt, Quant, Opt, ModeScope, Sides, NoSide, Side, NormalPath}
use Rattle.gql_norm.specs.NewColumns.{of_degree, degree_in_paths}

-- a column behind others, unless one has its name
abbrev pub with_column : ColumnList → List ℕ × ColumnKind → ColumnList
with_column columns c = if is_column columns c.0 then columns else columns ++ c ∷ []

abbrev pub with_columns : ColumnList → ColumnList → ColumnList
with_columns columns [] = columns
with_columns columns (c ∷ cs) = with_columns (with_column columns c) cs

-- a variable that is there
abbrev pub declared_variable : ColumnKind → Option (List ℕ) → ColumnList
declared_variable k None = []
declared_variable k (Some x) = (x, k) ∷ []

-- the variables that a part declares, with what one element of each is
abbrev mutual
  pub declared_in : Part → ColumnList
  declared_in (Node w) = declared_variable kind.Node w.variable
  declared_in (Edge d w) = declared_variable kind.Edge w.variable
  declared_in (Concat p r) = declared_in p ++ declared_in r
  declared_in (Union p r) = declared_in p ++ declared_in r
  declared_in (Alt ss) = declared_in_sides ss
  declared_in (Quant b l n) = declared_in b
  declared_in (Opt b) = declared_in b
  declared_in (ModeScope m b c) = declared_in b

  pub declared_in_sides : Sides → ColumnList
  declared_in_sides NoSide = []
  declared_in_sides (Side p ss) = declared_in p ++ declared_in_sides ss

-- the same of parts one behind the other
abbrev pub declared_in_all : List Part → ColumnList
declared_in_all [] = []
declared_in_all (p ∷ ps) = declared_in p ++ declared_in_all ps

-- each variable by its degree over all path patterns
abbrev pub by_degrees : List NormalPath → ColumnList → ColumnList
by_degrees paths cs = map (λ (c : List ℕ × ColumnKind). (c.0, of_degree (degree_in_paths paths c.0) c.1)) cs
