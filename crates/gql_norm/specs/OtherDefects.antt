-- E15 MISUSE, E16 COLUMN and E23 PARAM, of a MATCH: an expression is misused, a map names a property twice, or a parameter isn't
-- set. What an expression does wrong is said with expressions; here stands what their names are inside a path pattern.
use Rattle.std.specs.Prelude.{ℕ, Bool, ◌||◌, List, [], ◌∷◌, ◌++◌, map, Some}
use Rattle.std.specs.List.{list_any, flat_map}
use Rattle.gql_values3.specs.Datum.{Datum}
use Rattle.gql_values3.specs.declared.table.ColumnKind.{ColumnKind}
use Rattle.gql_ast.specs.ClauseColumns.{ColumnList}
use Rattle.gql_expr_checks.specs.Repeated.{repeated}
use Rattle.gql_expr_checks.specs.ExprMisuses.{misused, elsewhere}
use Rattle.gql_expr_checks.specs.ExprParameters.{parameters_in, unset}
use Rattle.gql_norm.specs.NormalPattern.{Part, NormalPath, NormalPattern}
use Rattle.gql_norm.specs.Declaration.{Declared, may_name}
use Rattle.gql_norm.specs.declared.degree.Degree.TheVariants.{Group}
use Rattle.gql_norm.specs.Reference.{crossed}
use Rattle.gql_norm.specs.PredicateSpot.{PredicateSpot, predicates_in, trees_in}
use Rattle.gql_norm.specs.NewColumns.{of_degree, columns_after}

-- a reference that crosses a quantifier is a group
abbrev pub kind_of_reference : List ℕ → ColumnKind → ColumnKind
kind_of_reference [] k = k
kind_of_reference (q ∷ crossed) k = of_degree (Some Group) k

-- what predicates may name at their place: the incoming columns first, and then the pattern's own names
abbrev pub columns_at : ColumnList → Part → PredicateSpot → ColumnList
columns_at columns body q =
    columns ++ map (λ (d : Declared). (d.name, kind_of_reference (crossed body q.quants q.place d.name) d.kind)) (may_name body q.place)

-- the predicates of a path pattern's body
abbrev pub predicates_of_path : NormalPath → List PredicateSpot
predicates_of_path p = predicates_in p.body 0 []

module _ (columns : ColumnList) where
  -- E15 in some predicate of a path pattern
  abbrev pub misused_in_path : NormalPath → Bool
  misused_in_path p = list_any (λ (q : PredicateSpot). list_any (misused (columns_at columns p.body q) elsewhere) q.trees) (predicates_of_path p)

  -- E15 in some path pattern, or in the final WHERE, which may name all columns behind
  abbrev pub misused_in_match : NormalPattern → Bool
  misused_in_match p = list_any misused_in_path p.paths || list_any (misused (columns_after columns p) elsewhere) (trees_in p.condition)

-- properties that a map names twice, in the order of the text
abbrev pub repeated_properties : NormalPattern → List (List ℕ)
repeated_properties p = flat_map (λ (q : PredicateSpot). repeated [] q.properties) (flat_map predicates_of_path p.paths)

-- parameters that aren't set, in the order of the text, those of the final WHERE last
abbrev pub unset_parameters : List (List ℕ × Datum) → NormalPattern → List (List ℕ)
unset_parameters params p = unset params (flat_map parameters_in (flat_map (λ (q : PredicateSpot). q.trees) (flat_map predicates_of_path p.paths) ++ trees_in p.condition))
