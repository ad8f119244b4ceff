-- Names of conditions and of predicates, from one on.
use Rattle.std.proofs.Common.{◌≡◌, ℕ, ◌+◌, ◌<◌, List, ◌++◌, map, flat_map, find, drop, get_or, length, Some, ap, ◌∙◌, arith, append-nil}
use Rattle.std.specs.Option.{option_or}
use Rattle.std.specs.Prelude.{option_map}
use Rattle.std.proofs.lemmas.Grind.{common_steps}
use Rattle.gql_ast.specs.Meaning.{tree_of}
use Rattle.gql_ast.specs.Scope.{names_in}
use Rattle.gql_ast.specs.declared.expr.Expr.{Expr}
use Rattle.gql_norm.specs.NormalData.{predicate_data}
use Rattle.gql_norm.specs.PredicateSpot.{tree_in}
use Rattle.gql_norm.specs.declared.element.Predicate.{Predicate}
use Rattle.gql_expr_checks.proofs.PartLemmas.{found_in_two}
use Rattle.gql_term.specs.Machinery.OpenReferences.{Barred, names_of_condition}

pub one_condition : (barred : Barred) (e : Expr) → find barred (names_of_condition (option_map tree_of (Some e))) ≡ find barred (names_in (tree_of e))
one_condition barred e = ap (find barred) (append-nil (names_in (tree_of e)))

-- the names of predicates from one on
abbrev pub names_from : List Predicate → ℕ → List (List ℕ)
names_from predicates i = flat_map names_in (map tree_in (map predicate_data (drop i predicates)))

names_step : (predicates : List Predicate) (i : ℕ) (p : Predicate) → i < length predicates → p ≡ get_or predicates i p → names_from predicates i ≡ names_in (tree_in (predicate_data p)) ++ names_from predicates (i + 1)
names_step predicates i p h k = grind (arith, common_steps)

pub found_from : (barred : Barred) (predicates : List Predicate) (i : ℕ) (p : Predicate) → i < length predicates → p ≡ get_or predicates i p
    → find barred (names_from predicates i) ≡ option_or (find barred (names_in (tree_in (predicate_data p)))) (find barred (names_from predicates (i + 1)))
found_from barred predicates i p h k = ap (find barred) (names_step predicates i p h k) ∙ found_in_two barred (names_in (tree_in (predicate_data p))) (names_from predicates (i + 1))
