-- A loop that asks of each item, and stops at the first that is at fault: what it answers there, and what is left behind an item.
use Rattle.std.proofs.Common.{◌≡◌, ℕ, ◌+◌, ◌<◌, Bool, List, ◌∷◌, drop, get_or, length, Option, None, Result, sym, ap, ◌∙◌}
use Rattle.std.specs.List.{flat_map, list_any}
use Rattle.std.specs.Option.{option_or}
use Rattle.std.specs.Result.{IsErr, IsErrAnd}
use Rattle.gql_values3.specs.Datum.{Datum}
use Rattle.gql_ast.specs.declared.refusal.Refusal.{Refusal}
use Rattle.gql_ast.specs.declared.refusal.Refusal.TheVariants as refusal
use Rattle.gql_expr_checks.specs.ExprParameters.{unset}
use Rattle.gql_expr_checks.specs.Gives.{Gives, Fails}
use Rattle.gql_expr_checks.specs.Refusals.{refusal_of_first, misuse_if}
use Rattle.gql_expr_checks.specs.declared.fault.ScopeFault.{ScopeFault}
use Rattle.gql_expr_checks.proofs.DropLemmas.{drop_step}
use Rattle.gql_expr_checks.proofs.RefusalLemmas.{first_of_in_two, misuse_in_two, unset_of_two, stops, goes_on, gives_fault}

-- the refusal of all items is that of the first item at fault
pub record IsAsked {A : Type 0} (one : A → Option Refusal) (all : List A → Option Refusal) : Type 0 where
  pub first : (x : A) (xs : List A) → all (x ∷ xs) ≡ option_or (one x) (all xs)

-- so it is with lists of what is at fault, with misuses, and with parameters
pub lists_asked : {A B : Type 0} (refuse : B → Refusal) (f : A → List B) → IsAsked (λ x. refusal_of_first refuse (f x)) (λ xs. refusal_of_first refuse (flat_map f xs))
lists_asked refuse f = record { first = λ x xs. first_of_in_two refuse (f x) (flat_map f xs) }

pub misuses_asked : {A : Type 0} (misused : A → Bool) → IsAsked (λ x. misuse_if (misused x)) (λ xs. misuse_if (list_any misused xs))
misuses_asked misused = record { first = λ x xs. misuse_in_two (misused x) (list_any misused xs) }

pub unset_asked : {A : Type 0} (params : List (List ℕ × Datum)) (f : A → List (List ℕ))
    → IsAsked (λ x. refusal_of_first refusal.Parameter (unset params (f x))) (λ xs. refusal_of_first refusal.Parameter (unset params (flat_map f xs)))
unset_asked params f = record { first = λ x xs. unset_of_two params (f x) (flat_map f xs) }

module _ {A : Type 0} {one : A → Option Refusal} {all : List A → Option Refusal} (asked : IsAsked one all) (xs : List A) (i : ℕ) (x : A) (below : i < length xs) (is : x ≡ get_or xs i x)
    (left : all (drop i xs) ≡ all xs) where
  cut : all xs ≡ option_or (one x) (all (drop (i + 1) xs))
  cut = sym left ∙ ap all (drop_step xs i x below is) ∙ asked.first x (drop (i + 1) xs)

  pub stops_at : (r : Result (Unit {0}) ScopeFault) (e : ScopeFault) → IsErr r → IsErrAnd r (λ f. f ≡ e) → Fails e (one x) → Gives r (all xs)
  stops_at r e failed same at_fault = gives_fault r e (all xs) failed same (stops e (one x) (all (drop (i + 1) xs)) (all xs) at_fault cut)

  pub goes_past : one x ≡ None → all (drop (i + 1) xs) ≡ all xs
  goes_past none = sym (goes_on (one x) (all (drop (i + 1) xs)) (all xs) none cut)
