-- The first declaration that clashes, by the names of nodes and of edges that were declared before.
use Rattle.std.specs.Prelude.{ℕ, Bool, false, not, ◌||◌, List, [], ◌∷◌, ◌++◌, Option, Some, None, if◌then◌else◌}
use Rattle.std.specs.List.{flat_map}
use Rattle.gql_values3.specs.declared.table.ColumnKind.{ColumnKind}
use Rattle.gql_values3.specs.declared.table.ColumnKind.TheVariants as kind
use Rattle.gql_ast.specs.ClauseColumns.{ColumnList, is_column}
use Rattle.gql_expr_checks.specs.Machinery.Knowing.{first_kind}
use Rattle.gql_norm.specs.NormalPattern.{NormalPath}
use Rattle.gql_norm.specs.WrongKinds.{is_kind}
use Rattle.gql_norm.specs.Machinery.ColumnGrowth.{declared_in}

-- all that path patterns declare, with what one element of each is
abbrev pub declared_in_all_paths : List NormalPath → ColumnList
declared_in_all_paths ps = flat_map (λ (p : NormalPath). declared_in p.body) ps

-- nodes and edges that were declared before
pub record Before : Type 0 where
  pub nodes : ColumnList
  pub edges : ColumnList

-- what a name needs is not what its column holds
abbrev pub needs_other : ColumnKind → Option ColumnKind → Bool
needs_other k None = false
needs_other k (Some c) = not (is_kind k c)

-- the other sort of declarations
abbrev pub others_than : ColumnKind → Before → ColumnList
others_than kind.Node b = b.edges
others_than k b = b.nodes

abbrev pub clashes_with : ColumnList → Before → List ℕ × ColumnKind → Bool
clashes_with columns b d = is_column (others_than d.1 b) d.0 || needs_other d.1 (first_kind columns d.0)

abbrev pub and_declared : Before → List ℕ × ColumnKind → Before
and_declared b (x, kind.Node) = record { nodes = b.nodes ++ (x, kind.Node) ∷ []; edges = b.edges }
and_declared b (x, k) = record { nodes = b.nodes; edges = b.edges ++ (x, k) ∷ [] }

abbrev pub first_clash : ColumnList → Before → ColumnList → Option (List ℕ)
first_clash columns b [] = None
first_clash columns b (d ∷ ds) = if clashes_with columns b d then Some d.0 else first_clash columns (and_declared b d) ds

abbrev pub none_before : Before
none_before = record { nodes = []; edges = [] }
