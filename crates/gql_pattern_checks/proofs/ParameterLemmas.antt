-- The first parameter of a pattern that isn't set, by its parts.
use Rattle.std.proofs.Common.{◌≡◌, ℕ, List, ◌++◌, map, flat_map, Option, Some, None, refl, ap, ◌∙◌}
use Rattle.std.specs.Option.{option_or}
use Rattle.std.proofs.lemmas.Grind.{flat_map-append}
use Rattle.std.proofs.lemmas.List.{append-nil}
use Rattle.gql_values3.specs.Datum.{Datum}
use Rattle.gql_ast.specs.Tree.{Tree}
use Rattle.gql_ast.specs.declared.refusal.Refusal.{Refusal}
use Rattle.gql_ast.specs.declared.refusal.Refusal.TheVariants as refusal
use Rattle.gql_expr_checks.specs.ExprParameters.{parameters_in, unset}
use Rattle.gql_expr_checks.specs.Refusals.{refusal_of_first}
use Rattle.gql_expr_checks.proofs.RefusalLemmas.{unset_of_two}
use Rattle.gql_norm.specs.NormalPattern.{NormalPattern}
use Rattle.gql_norm.specs.PredicateSpot.{PredicateSpot, tree_in, trees_in}
use Rattle.gql_norm.specs.OtherDefects.{predicates_of_path, unset_parameters}
use Rattle.gql_pattern_checks.specs.Machinery.PartWalk.{if_there, asked_of_paths}
use Rattle.gql_pattern_checks.specs.Machinery.Questions.{unset_in_element, unset_in_condition}
use Rattle.gql_pattern_checks.proofs.WalkLemmas.{IsAsked, walked_paths}

module _ (params : List (List ℕ × Datum)) where
  abbrev first_unset : List Tree → Option Refusal
  first_unset es = refusal_of_first refusal.Parameter (unset params (flat_map parameters_in es))

  unset_in_two : (xs ys : List Tree) → first_unset (xs ++ ys) ≡ option_or (first_unset xs) (first_unset ys)
  unset_in_two xs ys =
      ap (λ ps. refusal_of_first refusal.Parameter (unset params ps)) (flat_map-append parameters_in xs ys)
      ∙ unset_of_two params (flat_map parameters_in xs) (flat_map parameters_in ys)

  unset_if_there : (c : Option Tree) → first_unset (trees_in c) ≡ if_there (unset_in_condition params) c
  unset_if_there None = refl
  unset_if_there (Some e) = ap (λ ps. refusal_of_first refusal.Parameter (unset params ps)) (append-nil (parameters_in e))

  abbrev first_unset_at : List PredicateSpot → Option Refusal
  first_unset_at qs = first_unset (flat_map (λ (q : PredicateSpot). q.trees) qs)

  asked : IsAsked first_unset_at (unset_in_element params) (unset_in_condition params)
  asked = record {
    nothing = refl;
    both = λ xs ys.
        ap first_unset (flat_map-append (λ (q : PredicateSpot). q.trees) xs ys)
        ∙ unset_in_two (flat_map (λ (q : PredicateSpot). q.trees) xs) (flat_map (λ (q : PredicateSpot). q.trees) ys);
    at_element = λ a qs w. ap first_unset (append-nil (map tree_in w.predicates));
    at_condition = λ a qs c. ap first_unset (append-nil (trees_in c)) ∙ unset_if_there c;
  }

  pub unset_in_pattern : (p : NormalPattern)
      → refusal_of_first refusal.Parameter (unset_parameters params p) ≡ option_or (asked_of_paths (unset_in_element params) (unset_in_condition params) p.paths) (if_there (unset_in_condition params) p.condition)
  unset_in_pattern p =
      unset_in_two (flat_map (λ (q : PredicateSpot). q.trees) (flat_map predicates_of_path p.paths)) (trees_in p.condition)
      ∙ (λ i. option_or (walked_paths first_unset_at (unset_in_element params) (unset_in_condition params) asked p.paths i) (unset_if_there p.condition i))
