-- The names of path patterns as a walk gathers them: path names and variables in the order of the text, and the variables under a
-- quantifier apart, which are groups.
use Rattle.std.specs.Prelude.{ℕ, Bool, true, false, List, [], ◌∷◌, ◌++◌, map, Option, Some, None}
use Rattle.gql_values3.specs.declared.table.ColumnKind.{ColumnKind}
use Rattle.gql_values3.specs.declared.table.ColumnKind.TheVariants as kind
use Rattle.gql_ast.specs.ClauseColumns.{ColumnList, is_column}
use Rattle.gql_norm.specs.NormalPattern.{Part, Node, Edge, Concat, Union, Alt, Quant, Opt, ModeScope, Sides, NoSide, Side, NormalPath}

-- names with what one element of each is, and those of them that are groups
pub record Gathered : Type 0 where
  pub names : ColumnList
  pub groups : ColumnList

abbrev pub none_yet : Gathered
none_yet = record { names = []; groups = [] }

-- with a variable, which a quantifier stands around or not
abbrev pub with_variable : Bool → Gathered → ColumnKind → Option (List ℕ) → Gathered
with_variable around g k None = g
with_variable true g k (Some x) = record { names = g.names ++ (x, k) ∷ []; groups = g.groups ++ (x, k) ∷ [] }
with_variable false g k (Some x) = record { names = g.names ++ (x, k) ∷ []; groups = g.groups }

abbrev mutual
  pub with_part : Bool → Gathered → Part → Gathered
  with_part around g (Node w) = with_variable around g kind.Node w.variable
  with_part around g (Edge d w) = with_variable around g kind.Edge w.variable
  with_part around g (Concat p r) = with_part around (with_part around g p) r
  with_part around g (Union p r) = with_part around (with_part around g p) r
  with_part around g (Alt ss) = with_sides around g ss
  with_part around g (Quant b l n) = with_part true g b
  with_part around g (Opt b) = with_part around g b
  with_part around g (ModeScope m b c) = with_part around g b

  pub with_sides : Bool → Gathered → Sides → Gathered
  with_sides around g NoSide = g
  with_sides around g (Side p ss) = with_sides around (with_part around g p) ss

-- with parts one behind the other
abbrev pub with_parts : Bool → Gathered → List Part → Gathered
with_parts around g [] = g
with_parts around g (p ∷ ps) = with_parts around (with_part around g p) ps

-- with a path name, and with a path pattern
abbrev pub with_path_name : Gathered → Option (List ℕ) → Gathered
with_path_name g None = g
with_path_name g (Some x) = record { names = g.names ++ (x, kind.Path) ∷ []; groups = g.groups }

abbrev pub with_path : Gathered → NormalPath → Gathered
with_path g p = with_part false (with_path_name g p.name) p.body

abbrev pub with_paths : Gathered → List NormalPath → Gathered
with_paths g [] = g
with_paths g (p ∷ ps) = with_paths (with_path g p) ps

-- what a column of this name holds, by whether it is a group
abbrev pub as_group : Bool → ColumnKind → ColumnKind
as_group true kind.Node = kind.Nodes
as_group true kind.Edge = kind.Edges
as_group b k = k

abbrev pub columns_of : ColumnList → ColumnList → ColumnList
columns_of groups names = map (λ (c : List ℕ × ColumnKind). (c.0, as_group (is_column groups c.0) c.1)) names
