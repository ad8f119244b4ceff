-- The kind of a property: what is read was spelled, and what was spelled is read.
use Rattle.std.proofs.Common.{◌≡◌, ℕ, suc, Bool, true, false, cond, eqb, List, [], ◌∷◌, ◌++◌, Option, Some, None, refl, sym, ap, subst, ◌∙◌, inl, inr, ◌⊎◌}
use Rattle.std.proofs.lemmas.Bool.{eqb-true}
use Rattle.gql_values3.specs.declared.prop_kind.Scalar.{Scalar}
use Rattle.gql_values3.specs.declared.prop_kind.Scalar.TheVariants as scalar
use Rattle.gql_values3.specs.declared.prop_kind.PropKind.{PropKind}
use Rattle.gql_values3.specs.declared.prop_kind.PropKind.TheVariants as kind
use Rattle.gql_fields.specs.Spelling.{flag_spelled}
use Rattle.gql_fields.specs.Machinery.Reading.{◌>>=◌, flag_at}
use Rattle.gql_fields.proofs.FieldLemmas.{IsBytes, Takes, Takes-then, bind_some, done, some_is}
use Rattle.gql_fields.proofs.ValueLemmas.{flag_takes}
use Rattle.gql_typecode.specs.TypeSpelling.{scalar_spelled, kind_spelled}
use Rattle.gql_typecode.specs.Machinery.TypeReading.{byte_at, scalar_told, items_kind_at, kind_behind, kind_at}

-- what holds of a part and the bytes after it holds of what is read
pub found_is : {A : Type 0} (Holds : A × List ℕ → Type 0) (a : A) (rest : List ℕ) (x : A × List ℕ) → done (a, rest) ≡ done x → Holds (a, rest) → Holds x
found_is Holds a rest x e h = subst Holds (some_is (a, rest) x e) h

-- the first byte stood in front
pub byte_takes : (bytes : List ℕ) (x : ℕ × List ℕ) → IsBytes bytes → byte_at bytes ≡ Some x → Takes bytes (x.0 ∷ []) x.1
unfolding byte_at
byte_takes [] x fits e = absurd cc
byte_takes (b ∷ bs) x fits e = subst (λ (y : ℕ × List ℕ). Takes (b ∷ bs) (y.0 ∷ []) y.1) (some_is (b, bs) x e) (record { parts = refl; rest_fits = λ i. fits (suc i) })

-- a byte is this one, or another one tells
told_by : {A : Type 0} (n k : ℕ) (x : A) (others : Option A) (y : A) (b : Bool) → (b ≡ true → n ≡ k) → cond b (Some x) others ≡ Some y → ((n ≡ k) × (x ≡ y)) ⊎ (others ≡ Some y)
told_by n k x others y true same e = inl (same refl, some_is x y e)
told_by n k x others y false same e = inr e

scalar_told_is : (n : ℕ) (s : Scalar) → scalar_told n ≡ Some s → n ≡ scalar_spelled s
scalar_told_is n s e =
    elim (told_by n 1 scalar.Bool (cond (eqb n 2) (Some scalar.Int) (cond (eqb n 3) (Some scalar.Text) None)) s (eqb n 1) (eqb-true n 1) e) [
      | inl h ↦ h.0 ∙ ap scalar_spelled h.1
      | inr h ↦
          elim (told_by n 2 scalar.Int (cond (eqb n 3) (Some scalar.Text) None) s (eqb n 2) (eqb-true n 2) h) [
            | inl k ↦ k.0 ∙ ap scalar_spelled k.1
            | inr k ↦
                elim (told_by n 3 scalar.Text None s (eqb n 3) (eqb-true n 3) k) [
                  | inl l ↦ l.0 ∙ ap scalar_spelled l.1
                  | inr l ↦ absurd cc
                ]
          ]
    ]

scalar_takes : (bytes : List ℕ) (byte : ℕ × List ℕ) (s : Scalar) → Takes bytes (byte.0 ∷ []) byte.1 → scalar_told byte.0 ≡ Some s → Takes bytes (scalar_spelled s ∷ []) byte.1
scalar_takes bytes byte s first e = subst (λ (n : ℕ). Takes bytes (n ∷ []) byte.1) (scalar_told_is byte.0 s e) first

behind_four : (bytes text rest : List ℕ) → Takes bytes text rest → Takes (4 ∷ bytes) (4 ∷ text) rest
behind_four bytes text rest taken = record { parts = ap (λ (t : List ℕ). 4 ∷ t) taken.parts; rest_fits = taken.rest_fits }

-- behind the byte that tells of a list
items_kind_takes : (bytes : List ℕ) (x : PropKind × List ℕ) → IsBytes bytes → items_kind_at bytes ≡ Some x → Takes (4 ∷ bytes) (kind_spelled x.0) x.1
unfolding items_kind_at
items_kind_takes bytes x fits e =
    let a = bind_some (byte_at bytes) (λ byte. scalar_told byte.0 >>= λ item. flag_at byte.1 >>= λ required. Some (kind.Many item required.0, required.1)) x e in
    let b = bind_some (scalar_told a.0.0) (λ item. flag_at a.0.1 >>= λ required. Some (kind.Many item required.0, required.1)) x a.2 in
    let d = bind_some (flag_at a.0.1) (λ required. Some (kind.Many b.0 required.0, required.1)) x b.2 in
    let first = scalar_takes bytes a.0 b.0 (byte_takes bytes a.0 fits a.1) b.1 in
    let second = flag_takes a.0.1 d.0 first.rest_fits d.1 in
    let both = Takes-then bytes (scalar_spelled b.0 ∷ []) a.0.1 (flag_spelled d.0.0 ∷ []) d.0.1 first second in
    let whole : Takes (4 ∷ bytes) (kind_spelled (kind.Many b.0 d.0.0)) d.0.1 = behind_four bytes (scalar_spelled b.0 ∷ flag_spelled d.0.0 ∷ []) d.0.1 both in
    found_is (λ (y : PropKind × List ℕ). Takes (4 ∷ bytes) (kind_spelled y.0) y.1) (kind.Many b.0 d.0.0) d.0.1 x d.2 whole

-- behind any first byte
behind_takes : (bytes : List ℕ) (byte : ℕ × List ℕ) (x : PropKind × List ℕ) (b : Bool) → Takes bytes (byte.0 ∷ []) byte.1 → (b ≡ true → byte.0 ≡ 4)
    → cond b (items_kind_at byte.1) (scalar_told byte.0 >>= λ item. Some (kind.One item, byte.1)) ≡ Some x → Takes bytes (kind_spelled x.0) x.1
behind_takes bytes byte x true first same e =
    let is : 4 ∷ byte.1 ≡ bytes = sym (first.parts ∙ ap (λ (n : ℕ). n ∷ byte.1) (same refl)) in
    subst (λ (t : List ℕ). Takes t (kind_spelled x.0) x.1) is (items_kind_takes byte.1 x first.rest_fits e)
behind_takes bytes byte x false first same e =
    let b = bind_some (scalar_told byte.0) (λ item. Some (kind.One item, byte.1)) x e in
    found_is (λ (y : PropKind × List ℕ). Takes bytes (kind_spelled y.0) y.1) (kind.One b.0) byte.1 x b.2 (scalar_takes bytes byte b.0 first b.1)

-- a kind that is read was spelled
pub kind_takes : (bytes : List ℕ) (x : PropKind × List ℕ) → IsBytes bytes → kind_at bytes ≡ Some x → Takes bytes (kind_spelled x.0) x.1
unfolding kind_at
kind_takes bytes x fits e =
    let a = bind_some (byte_at bytes) kind_behind x e in
    behind_takes bytes a.0 x (eqb a.0.0 4) (byte_takes bytes a.0 fits a.1) (eqb-true a.0.0 4) a.2

-- a kind that was spelled is read
pub kind_again : (k : PropKind) (rest : List ℕ) → kind_at (kind_spelled k ++ rest) ≡ Some (k, rest)
unfolding kind_at items_kind_at byte_at
kind_again (kind.One scalar.Bool) rest = refl
kind_again (kind.One scalar.Int) rest = refl
kind_again (kind.One scalar.Text) rest = refl
kind_again (kind.Many scalar.Bool false) rest = refl
kind_again (kind.Many scalar.Bool true) rest = refl
kind_again (kind.Many scalar.Int false) rest = refl
kind_again (kind.Many scalar.Int true) rest = refl
kind_again (kind.Many scalar.Text false) rest = refl
kind_again (kind.Many scalar.Text true) rest = refl
