-- What may be named beside the incoming columns, and how it grows by the variables of a part.
use Rattle.std.specs.Prelude.{ℕ, Bool, true, false, List, [], ◌∷◌, ◌++◌, map, Option, Some, None, if◌then◌else◌}
use Rattle.gql_values3.specs.declared.table.ColumnKind.{ColumnKind}
use Rattle.gql_values3.specs.declared.table.ColumnKind.TheVariants as kind
use Rattle.gql_ast.specs.ClauseColumns.{ColumnList}
use Rattle.gql_expr_checks.specs.Repeated.{is_among}
use Rattle.gql_norm.specs.NormalPattern.{Part, Node, Edge, Concat, Union, Alt, Quant, Opt, ModeScope, Sides, NoSide, Side, NormalPath}
use Rattle.gql_expr_checks.specs.Machinery.NameList.{with_name}
use Rattle.gql_pattern_checks.specs.declared.scope.Names.{Names}

-- nothing
abbrev pub no_names : Names
no_names = record { paths = []; variables = []; groups = [] }

-- a variable, which is a group or not, and one that may be there
abbrev pub with_variable : Bool → Names → List ℕ → Names
with_variable is_group s x = record { paths = s.paths; variables = with_name s.variables x; groups = if is_group then with_name s.groups x else s.groups }

abbrev pub with_variable_of : Bool → Names → Option (List ℕ) → Names
with_variable_of is_group s None = s
with_variable_of is_group s (Some x) = with_variable is_group s x

-- the variables of a part: what is declared under one of its quantifiers is a group behind it
abbrev mutual
  pub with_part : Bool → Names → Part → Names
  with_part is_group s (Node w) = with_variable_of is_group s w.variable
  with_part is_group s (Edge d w) = with_variable_of is_group s w.variable
  with_part is_group s (Concat p r) = with_part is_group (with_part is_group s p) r
  with_part is_group s (Union p r) = with_part is_group (with_part is_group s p) r
  with_part is_group s (Alt ss) = with_sides is_group s ss
  with_part is_group s (Quant b l n) = with_part true s b
  with_part is_group s (Opt b) = with_part is_group s b
  with_part is_group s (ModeScope m b c) = with_part is_group s b

  pub with_sides : Bool → Names → Sides → Names
  with_sides is_group s NoSide = s
  with_sides is_group s (Side p ss) = with_sides is_group (with_part is_group s p) ss

-- the same of parts one behind the other
abbrev pub with_parts : Bool → Names → List Part → Names
with_parts is_group s [] = s
with_parts is_group s (p ∷ ps) = with_parts is_group (with_part is_group s p) ps

-- a path name, unless a variable before it has the name
abbrev pub with_path_name : Names → Option (List ℕ) → Names
with_path_name s None = s
with_path_name s (Some x) = if is_among s.variables x then s else record { paths = with_name s.paths x; variables = s.variables; groups = s.groups }

-- all that path patterns name, in the order of the text
abbrev pub with_paths : Names → List NormalPath → Names
with_paths s [] = s
with_paths s (p ∷ ps) = with_paths (with_part false (with_path_name s p.name) p.body) ps

-- all of it as columns behind the incoming ones
abbrev pub path_column : List ℕ → List ℕ × ColumnKind
path_column x = (x, kind.Path)

abbrev pub variable_column : List (List ℕ) → List ℕ → List ℕ × ColumnKind
variable_column groups x = (x, if is_among groups x then kind.Nodes else kind.Node)

abbrev pub known_columns : ColumnList → Names → ColumnList
known_columns columns s = columns ++ map path_column s.paths ++ map (variable_column s.groups) s.variables
