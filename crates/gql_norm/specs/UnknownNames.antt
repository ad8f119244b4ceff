-- E08 VARIABLE, of a MATCH: a predicate names what it may not name, or a path name stands for something already. Here stand
-- the names at fault, in the order of the text.
use Rattle.std.specs.Prelude.{ℕ, Bool, not, ◌&&◌, ◌||◌, List, [], ◌∷◌, ◌++◌, filter, Option, Some, None}
use Rattle.std.specs.List.{list_any, flat_map}
use Rattle.gql_values3.specs.Texts.{same_text}
use Rattle.gql_ast.specs.ClauseColumns.{ColumnList, is_column}
use Rattle.gql_norm.specs.NormalPattern.{Part, NormalPath, NormalPattern}
use Rattle.gql_norm.specs.Declaration.{Declared, may_name, declarations}
use Rattle.gql_ast.specs.Scope.{names_in}
use Rattle.gql_norm.specs.PredicateSpot.{PredicateSpot, predicates_in, trees_in, names_of}
use Rattle.gql_norm.specs.NewColumns.{columns_after}

-- a variable of this name is among the declarations
abbrev pub is_declared : List Declared → List ℕ → Bool
is_declared ds x = list_any (λ (d : Declared). same_text x d.name) ds

-- Inside a path pattern a predicate may name the incoming columns, and what the path pattern declares at or before its place,
-- not in another side. A path name is not in scope there.
abbrev pub unknown_at : ColumnList → Part → PredicateSpot → List (List ℕ)
unknown_at columns body q = filter (λ x. not (is_column columns x) && not (is_declared (may_name body q.place) x)) (names_of q)

-- the path name of a path pattern, if it has one
abbrev pub path_name_of : NormalPath → List (List ℕ)
path_name_of p = names p.name
  where
    names : Option (List ℕ) → List (List ℕ)
    names None = []
    names (Some x) = x ∷ []

-- a name among these
abbrev pub is_name_among : List (List ℕ) → List ℕ → Bool
is_name_among xs x = list_any (same_text x) xs

module _ (columns : ColumnList) where
  -- A path name may not be a column, an earlier path name, or an element variable of the clause. Given are the path names
  -- before, and all variables of the clause.
  abbrev pub unknown_in_paths : List (List ℕ) → List Declared → List NormalPath → List (List ℕ)
  unknown_in_paths before ds [] = []
  unknown_in_paths before ds (p ∷ ps) =
      filter (λ x. is_column columns x || is_name_among before x || is_declared ds x) (path_name_of p)
      ++ flat_map (unknown_at columns p.body) (predicates_in p.body 0 [])
      ++ unknown_in_paths (path_name_of p ++ before) ds ps

  -- the final WHERE sees all columns behind the clause
  abbrev pub unknown_in_match : NormalPattern → List (List ℕ)
  unknown_in_match p =
      unknown_in_paths [] (flat_map (λ (q : NormalPath). declarations q.body) p.paths) p.paths
      ++ filter (λ x. not (is_column (columns_after columns p) x)) (flat_map names_in (trees_in p.condition))
