-- The first property that a map of a pattern names twice, by its parts.
use Rattle.std.proofs.Common.{◌≡◌, ℕ, Bool, true, false, List, [], ◌∷◌, flat_map, Option, Some, None, refl, ap, ◌∙◌}
use Rattle.std.specs.Prelude.{if◌then◌else◌}
use Rattle.std.specs.Option.{option_or}
use Rattle.std.proofs.lemmas.Grind.{flat_map-append}
use Rattle.std.proofs.lemmas.List.{append-nil}
use Rattle.gql_ast.specs.Tree.{Tree}
use Rattle.gql_ast.specs.declared.refusal.Refusal.{Refusal}
use Rattle.gql_ast.specs.declared.refusal.Refusal.TheVariants as refusal
use Rattle.gql_ast.specs.declared.refusal.ColumnRef.TheVariants as column
use Rattle.gql_expr_checks.specs.Repeated.{is_among, repeated}
use Rattle.gql_expr_checks.proofs.RefusalLemmas.{first_of_in_two}
use Rattle.gql_norm.specs.NormalPattern.{Predicate, PropertyIs, Holds, NormalPattern}
use Rattle.gql_norm.specs.PredicateSpot.{PredicateSpot, property_in}
use Rattle.gql_norm.specs.OtherDefects.{repeated_properties}
use Rattle.gql_pattern_checks.specs.Machinery.PartWalk.{if_there, asked_of_paths}
use Rattle.gql_pattern_checks.specs.Machinery.Questions.{second_naming, repeated_in_element, named_before, named_behind}
use Rattle.gql_pattern_checks.proofs.WalkLemmas.{IsAsked, walked_paths}

-- a predicate, and then those behind it
pub named_step : (seen : List (List ℕ)) (q : Predicate) (qs : List Predicate)
    → second_naming (repeated seen (flat_map property_in (q ∷ qs))) ≡ option_or (named_before seen q) (second_naming (repeated (named_behind seen q) (flat_map property_in qs)))
named_step seen (Holds e) qs = refl
named_step seen (PropertyIs p e) qs = by (is_among seen p)
  where
    by : (b : Bool) → second_naming (if b then p ∷ repeated (p ∷ seen) (flat_map property_in qs) else repeated (p ∷ seen) (flat_map property_in qs))
        ≡ option_or (if b then Some (refusal.Column (column.Property p)) else None) (second_naming (repeated (p ∷ seen) (flat_map property_in qs)))
    by true = refl
    by false = refl

abbrev repeated_at : List PredicateSpot → Option Refusal
repeated_at qs = second_naming (flat_map (λ (q : PredicateSpot). repeated [] q.properties) qs)

no_property : (c : Option Tree) → None ≡ if_there (λ e. None) c
no_property None = refl
no_property (Some e) = refl

asked : IsAsked repeated_at repeated_in_element (λ e. None)
asked = record {
  nothing = refl;
  both = λ xs ys.
      ap second_naming (flat_map-append (λ (q : PredicateSpot). repeated [] q.properties) xs ys)
      ∙ first_of_in_two (λ x. refusal.Column (column.Property x)) (flat_map (λ (q : PredicateSpot). repeated [] q.properties) xs) (flat_map (λ (q : PredicateSpot). repeated [] q.properties) ys);
  at_element = λ a qs w. ap second_naming (append-nil (repeated [] (flat_map property_in w.predicates)));
  at_condition = λ a qs c. no_property c;
}

pub repeated_in_pattern : (p : NormalPattern) → second_naming (repeated_properties p) ≡ asked_of_paths repeated_in_element (λ e. None) p.paths
repeated_in_pattern p = walked_paths repeated_at repeated_in_element (λ e. None) asked p.paths
