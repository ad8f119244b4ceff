-- What holds of degrees in each row of a table, computed.
use Rattle.std.proofs.Common.{◌≡◌, ℕ, zero, suc, Bool, true, false, not, ◌&&◌, Option, Some, None, refl, sym, ap, ◌∙◌, eqb-true}
use Rattle.std.specs.Prelude.{◌==◌}
use Rattle.std.proofs.lemmas.Bool.{and_parts}
use Rattle.gql_norm.specs.declared.degree.Degree.{Degree}
use Rattle.gql_norm.specs.declared.degree.Degree.TheVariants.{Singleton, Conditional, Group}

-- a degree as a number, and back
abbrev code : Option Degree → ℕ
code None = 0
code (Some Singleton) = 1
code (Some Conditional) = 2
code (Some Group) = 3

abbrev back : ℕ → Option Degree
back zero = None
back (suc zero) = Some Singleton
back (suc (suc zero)) = Some Conditional
back (suc (suc (suc n))) = Some Group

back-code : (a : Option Degree) → back (code a) ≡ a
back-code None = refl
back-code (Some Singleton) = refl
back-code (Some Conditional) = refl
back-code (Some Group) = refl

-- the test holds in each row
abbrev in_each : (Option Degree → Bool) → Bool
in_each p = p None && (p (Some Singleton) && (p (Some Conditional) && p (Some Group)))

in_row : (p : Option Degree → Bool) → in_each p ≡ true → (a : Option Degree) → p a ≡ true
in_row p h a =
    let none = and_parts (p None) (p (Some Singleton) && (p (Some Conditional) && p (Some Group))) h in
    let singleton = and_parts (p (Some Singleton)) (p (Some Conditional) && p (Some Group)) none.1 in
    let others = and_parts (p (Some Conditional)) (p (Some Group)) singleton.1 in
    by none.0 singleton.0 others.0 others.1 a
  where
    by : p None ≡ true → p (Some Singleton) ≡ true → p (Some Conditional) ≡ true → p (Some Group) ≡ true → (d : Option Degree) → p d ≡ true
    by n s c g None = n
    by n s c g (Some Singleton) = s
    by n s c g (Some Conditional) = c
    by n s c g (Some Group) = g

-- two tables that are one in each row
pub same_table : (f g : Option Degree → Option Degree → Option Degree → Option Degree) → in_each (λ a. in_each (λ b. in_each (λ c. code (f a b c) == code (g a b c)))) ≡ true → (a b c : Option Degree) → f a b c ≡ g a b c
same_table f g h a b c =
    let of_a = in_row (λ a. in_each (λ b. in_each (λ c. code (f a b c) == code (g a b c)))) h a in
    let of_b = in_row (λ b. in_each (λ c. code (f a b c) == code (g a b c))) of_a b in
    let same = eqb-true (code (f a b c)) (code (g a b c)) (in_row (λ c. code (f a b c) == code (g a b c)) of_b c) in
    sym (back-code (f a b c)) ∙ ap back same ∙ back-code (g a b c)

-- two tests that agree in each row
abbrev agree : Bool → Bool → Bool
agree true b = b
agree false b = not b

agreed : (a b : Bool) → agree a b ≡ true → a ≡ b
agreed true b h = sym h
agreed false true h = absurd (cc)
agreed false false h = refl

pub same_test : (f g : Option Degree → Option Degree → Bool) → in_each (λ a. in_each (λ b. agree (f a b) (g a b))) ≡ true → (a b : Option Degree) → f a b ≡ g a b
same_test f g h a b = agreed (f a b) (g a b) (in_row (λ b. agree (f a b) (g a b)) (in_row (λ a. in_each (λ b. agree (f a b) (g a b))) h a) b)
