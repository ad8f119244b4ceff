-- Examples of names at fault and of misuses in patterns, computed: each was worked out by hand from the rules.
use Rattle.std.proofs.Common.{◌≡◌, ℕ, Bool, true, false, List, [], ◌∷◌, codes, Option, Some, None, refl}
use Rattle.gql_values3.specs.declared.table.ColumnKind.TheVariants as kind
use Rattle.gql_ast.specs.ClauseColumns.{ColumnList}
use Rattle.gql_ast.specs.Tree.{Tree, property, aggregate}
use Rattle.gql_ast.specs.declared.pattern.Direction.{Direction}
use Rattle.gql_ast.specs.declared.words.Aggregate.{Aggregate}
use Rattle.gql_ast.specs.declared.words.SetQuantifier.{SetQuantifier}
use Rattle.gql_expr_checks.specs.ExprMisuses.{misused}
use Rattle.gql_norm.specs.NormalPattern.{ElementPattern, Holds, Part, Node, Edge, Concat, Union, Quant, NormalPath, NormalPattern}
use Rattle.gql_norm.specs.Places.{size}
use Rattle.gql_norm.specs.Declaration.{visible}
use Rattle.gql_norm.specs.PredicateSpot.{predicates_in}
use Rattle.gql_norm.specs.UnknownNames.{unknown_in_match}
use Rattle.gql_norm.specs.OtherDefects.{misused_in_match}

-- (x), (x WHERE e), and a property n of a variable
abbrev called : List ℕ → ElementPattern
called x = record { variable = Some x; labels = None; predicates = [] }

abbrev asking : List ℕ → Tree → ElementPattern
asking x e = record { variable = Some x; labels = None; predicates = Holds e ∷ [] }

abbrev n_of : List ℕ → Tree
n_of x = property x (codes "n")

abbrev path : Option (List ℕ) → Part → NormalPath
path v p = record { name = v; selector = None; body = p }

abbrev match : Part → NormalPattern
match p = record { paths = path None p ∷ []; condition = None }

abbrev match_where : Part → Tree → NormalPattern
match_where p e = record { paths = path None p ∷ []; condition = Some e }

-- the column c stands before the clause
abbrev before : ColumnList
before = (codes "c", kind.Node) ∷ []

abbrev unknown : NormalPattern → List (List ℕ)
unknown p = unknown_in_match before p

abbrev is_misused : NormalPattern → Bool
is_misused p = misused_in_match before p

-- (x WHERE c.n)
a_column_is_seen : unknown (match (Node (asking (codes "x") (n_of (codes "c"))))) ≡ []
unfolding size visible predicates_in
a_column_is_seen = refl

-- ((x) | (x)) (y WHERE x.n)
a_name_of_both_sides_is_seen_behind : unknown (match (Concat (Union (Node (called (codes "x"))) (Node (called (codes "x")))) (Node (asking (codes "y") (n_of (codes "x")))))) ≡ []
unfolding size visible predicates_in
a_name_of_both_sides_is_seen_behind = refl

-- (x) | (y WHERE x.n)
a_side_does_not_see_the_other : unknown (match (Union (Node (called (codes "x"))) (Node (asking (codes "y") (n_of (codes "x")))))) ≡ codes "x" ∷ []
unfolding size visible predicates_in
a_side_does_not_see_the_other = refl

-- (x)-[e]->(y WHERE x.n), and (y WHERE x.n)-[e]->(x)
module _ (d : Direction) where
  an_earlier_name_is_seen : unknown (match (Concat (Node (called (codes "x"))) (Concat (Edge d (called (codes "e"))) (Node (asking (codes "y") (n_of (codes "x"))))))) ≡ []
  unfolding size visible predicates_in
  an_earlier_name_is_seen = refl

  a_later_name_is_not : unknown (match (Concat (Node (asking (codes "y") (n_of (codes "x")))) (Concat (Edge d (called (codes "e"))) (Node (called (codes "x")))))) ≡ codes "x" ∷ []
  unfolding size visible predicates_in
  a_later_name_is_not = refl

  -- (x)-[e]->(y) WHERE e.n, and WHERE z.n
  the_final_where_sees_all : unknown (match_where (Concat (Node (called (codes "x"))) (Concat (Edge d (called (codes "e"))) (Node (called (codes "y"))))) (n_of (codes "e"))) ≡ []
  unfolding size visible predicates_in
  the_final_where_sees_all = refl

  the_final_where_sees_no_other : unknown (match_where (Concat (Node (called (codes "x"))) (Concat (Edge d (called (codes "e"))) (Node (called (codes "y"))))) (n_of (codes "z"))) ≡ codes "z" ∷ []
  unfolding size visible predicates_in
  the_final_where_sees_no_other = refl

  -- (x)(-[e WHERE e.n]->){1,2}(y), and (x)(-[e]->){1,2}(y WHERE e.n)
  within_its_quantifier_it_is_one : is_misused (match (Concat (Node (called (codes "x"))) (Concat (Quant (Edge d (asking (codes "e") (n_of (codes "e")))) 1 (Some 2)) (Node (called (codes "y")))))) ≡ false
  unfolding size visible predicates_in misused
  within_its_quantifier_it_is_one = refl

  behind_its_quantifier_it_is_a_group : is_misused (match (Concat (Node (called (codes "x"))) (Concat (Quant (Edge d (called (codes "e"))) 1 (Some 2)) (Node (asking (codes "y") (n_of (codes "e"))))))) ≡ true
  unfolding size visible predicates_in misused
  behind_its_quantifier_it_is_a_group = refl

  -- but it may be named there
  behind_its_quantifier_it_is_seen : unknown (match (Concat (Node (called (codes "x"))) (Concat (Quant (Edge d (called (codes "e"))) 1 (Some 2)) (Node (asking (codes "y") (n_of (codes "e"))))))) ≡ []
  unfolding size visible predicates_in
  behind_its_quantifier_it_is_seen = refl

  -- (x)(-[e]->){1,2}(y WHERE SUM(e.n)), and SUM(y.n), which is over rows
  an_aggregate_over_a_group : (a : Aggregate) (q : SetQuantifier) → is_misused (match (Concat (Node (called (codes "x"))) (Concat (Quant (Edge d (called (codes "e"))) 1 (Some 2)) (Node (asking (codes "y") (aggregate a q (n_of (codes "e")))))))) ≡ false
  unfolding size visible predicates_in misused
  an_aggregate_over_a_group a q = refl

  an_aggregate_over_rows : (a : Aggregate) (q : SetQuantifier) → is_misused (match (Concat (Node (called (codes "x"))) (Concat (Quant (Edge d (called (codes "e"))) 1 (Some 2)) (Node (asking (codes "y") (aggregate a q (n_of (codes "y")))))))) ≡ true
  unfolding size visible predicates_in misused
  an_aggregate_over_rows a q = refl

  -- (x)(-[e]->){1,2}(y) WHERE e.n, and WHERE y.n
  a_group_in_the_final_where : is_misused (match_where (Concat (Node (called (codes "x"))) (Concat (Quant (Edge d (called (codes "e"))) 1 (Some 2)) (Node (called (codes "y"))))) (n_of (codes "e"))) ≡ true
  unfolding size visible predicates_in misused
  a_group_in_the_final_where = refl

  an_element_in_the_final_where : is_misused (match_where (Concat (Node (called (codes "x"))) (Concat (Quant (Edge d (called (codes "e"))) 1 (Some 2)) (Node (called (codes "y"))))) (n_of (codes "y"))) ≡ false
  unfolding size visible predicates_in misused
  an_element_in_the_final_where = refl

-- p = (x), q = (y WHERE x.n): a path pattern sees nothing of another
a_path_pattern_sees_no_other : unknown (record { paths = path (Some (codes "p")) (Node (called (codes "x"))) ∷ path (Some (codes "q")) (Node (asking (codes "y") (n_of (codes "x")))) ∷ []; condition = None }) ≡ codes "x" ∷ []
unfolding size visible predicates_in
a_path_pattern_sees_no_other = refl

-- c = (x), p = (x), p = (y), and y = (x), (y)
a_path_name_is_a_column : unknown (record { paths = path (Some (codes "c")) (Node (called (codes "x"))) ∷ []; condition = None }) ≡ codes "c" ∷ []
unfolding size visible predicates_in
a_path_name_is_a_column = refl

a_path_name_stands_twice : unknown (record { paths = path (Some (codes "p")) (Node (called (codes "x"))) ∷ path (Some (codes "p")) (Node (called (codes "y"))) ∷ []; condition = None }) ≡ codes "p" ∷ []
unfolding size visible predicates_in
a_path_name_stands_twice = refl

a_path_name_is_a_variable : unknown (record { paths = path (Some (codes "y")) (Node (called (codes "x"))) ∷ path None (Node (called (codes "y"))) ∷ []; condition = None }) ≡ codes "y" ∷ []
unfolding size visible predicates_in
a_path_name_is_a_variable = refl
