-- The first refusal of two lists, and what a check that stops at it answers.
use Rattle.std.proofs.Common.{◌≡◌, ℕ, Bool, true, false, not, cond, ◌||◌, List, [], ◌∷◌, ◌++◌, filter, Option, None, Result, Ok, Err, refl, sym, ap, subst, ◌∙◌, true≢false}
use Rattle.std.specs.Prelude.{find, option_map}
use Rattle.std.specs.Option.{option_or}
use Rattle.gql_expr_checks.specs.Refusals.{refusal_of_first, misuse_if}
use Rattle.gql_expr_checks.specs.ExprParameters.{unset, is_set}
use Rattle.gql_values3.specs.Datum.{Datum}
use Rattle.gql_ast.specs.declared.refusal.Refusal.TheVariants as refusal
use Rattle.gql_ast.specs.declared.refusal.Refusal.{Refusal}
use Rattle.gql_expr_checks.specs.First.{first}
use Rattle.std.specs.Result.{IsErr, IsErrAnd}
use Rattle.gql_expr_checks.specs.Gives.{Gives, Fails}
use Rattle.gql_expr_checks.proofs.FirstLemmas.{first-filter}
use Rattle.gql_expr_checks.specs.declared.fault.ScopeFault.{ScopeFault}
use Rattle.gql_expr_checks.specs.declared.fault.ScopeFault.TheVariants as fault

-- the first of two lists
pub first_of_in_two : {A : Type 0} (f : A → Refusal) (xs ys : List A) → refusal_of_first f (xs ++ ys) ≡ option_or (refusal_of_first f xs) (refusal_of_first f ys)
first_of_in_two f [] ys = refl
first_of_in_two f (x ∷ xs) ys = refl

pub misuse_in_two : (a b : Bool) → misuse_if (a || b) ≡ option_or (misuse_if a) (misuse_if b)
misuse_in_two true b = refl
misuse_in_two false b = refl

pub refusal_of_first-first : {A : Type 0} (f : A → Refusal) (xs : List A) → refusal_of_first f xs ≡ option_map f (first xs)
refusal_of_first-first f [] = refl
refusal_of_first-first f (x ∷ xs) = refl

-- a check that stops at the first of two answers the first of both
pub stops : (e : ScopeFault) (o p whole : Option Refusal) → Fails e o → whole ≡ option_or o p → Fails e whole
stops (fault.Defect r) o p whole h q = q ∙ ap (λ z. option_or z p) h
stops fault.OutOfMemory o p whole h q = tt

-- and one that goes on answers what is behind
pub goes_on : (o p whole : Option Refusal) → o ≡ None → whole ≡ option_or o p → whole ≡ p
goes_on o p whole h q = q ∙ ap (λ z. option_or z p) h

-- the first that passes is the first refusal
pub known : {A : Type 0} (f : A → Refusal) (p : A → Bool) (xs : List A) → refusal_of_first f (filter p xs) ≡ option_map f (find p xs)
known f p xs = refusal_of_first-first f (filter p xs) ∙ ap (option_map f) (first-filter p xs)

-- the first unset of two lists of parameters
pub unset_of_two : (params : List (List ℕ × Datum)) (xs ys : List (List ℕ))
    → refusal_of_first refusal.Parameter (unset params (xs ++ ys)) ≡ option_or (refusal_of_first refusal.Parameter (unset params xs)) (refusal_of_first refusal.Parameter (unset params ys))
unset_of_two params [] ys = refl
unset_of_two params (x ∷ xs) ys = by (not (is_set params x)) (unset_of_two params xs ys)
  where
    by : (b : Bool) → refusal_of_first refusal.Parameter (unset params (xs ++ ys)) ≡ option_or (refusal_of_first refusal.Parameter (unset params xs)) (refusal_of_first refusal.Parameter (unset params ys))
        → refusal_of_first refusal.Parameter (cond b (x ∷ unset params (xs ++ ys)) (unset params (xs ++ ys)))
        ≡ option_or (refusal_of_first refusal.Parameter (cond b (x ∷ unset params xs) (unset params xs))) (refusal_of_first refusal.Parameter (unset params ys))
    by true h = refl
    by false h = h

pub ruleset first_of_first = (refusal_of_first-first)

-- what `?` gives back is the fault that it met
pub gives_fault : (r : Result (Unit {0}) ScopeFault) (e : ScopeFault) (o : Option Refusal) → IsErr r → IsErrAnd r (λ f. f ≡ e) → Fails e o → Gives r o
gives_fault (Ok u) e o h same refuses = absurd (true≢false (sym h))
gives_fault (Err f) e o h same refuses = subst (λ g. Fails g o) (sym same) refuses
