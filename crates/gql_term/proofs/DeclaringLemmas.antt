-- Names that several parts declare under an unprotected quantifier.
use mathlib.Core.Bool.{or_assoc}
use Rattle.std.proofs.Common.{◌≡◌, ℕ, Bool, false, ◌||◌, List, [], ◌∷◌, ◌++◌, refl, sym, ap, ◌∙◌}
use Rattle.std.proofs.Math.Bool.{or-false}
use Rattle.std.specs.List.{list_any}
use Rattle.std.proofs.lemmas.List.Folds.{list_any-append}
use Rattle.gql_norm.specs.NormalPattern.{Part, in_a_row, side_by_side, sides_of}
use Rattle.gql_term.specs.Machinery.OpenReferences.{declares_open, declares_open_side, Barred, barred_behind, barred_behind_all}

-- some of several parts declares the name so
abbrev pub some_declares : List Part → Bool → Bool → List ℕ → Bool
some_declares ps safe under x = list_any (λ p. declares_open p safe under x) ps

pub declaring_row : (p : Part) (ps : List Part) (safe under : Bool) (x : List ℕ) → declares_open (in_a_row p ps) safe under x ≡ some_declares (p ∷ ps) safe under x
declaring_row p [] safe under x = sym (or-false (declares_open p safe under x))
declaring_row p (r ∷ rs) safe under x = ap (λ b. declares_open p safe under x || b) (declaring_row r rs safe under x)

pub declaring_beside : (p : Part) (ps : List Part) (safe under : Bool) (x : List ℕ) → declares_open (side_by_side p ps) safe under x ≡ some_declares (p ∷ ps) safe under x
declaring_beside p [] safe under x = sym (or-false (declares_open p safe under x))
declaring_beside p (r ∷ rs) safe under x = ap (λ b. declares_open p safe under x || b) (declaring_beside r rs safe under x)

pub declaring_told : (ps : List Part) (safe under : Bool) (x : List ℕ) → declares_open_side (sides_of ps) safe under x ≡ some_declares ps safe under x
declaring_told [] safe under x = refl
declaring_told (p ∷ ps) safe under x = ap (λ b. declares_open p safe under x || b) (declaring_told ps safe under x)

-- several parts in front, of which there may be none, and of which one is the last
pub behind_none : (barred : Barred) (safe : Bool) → barred_behind_all barred safe [] ≡ barred
behind_none barred safe = λ i x. or-false (barred x) i

behind_one_more : (b : Bool) (safe : Bool) (ps : List Part) (p : Part) (x : List ℕ) → (b || some_declares (ps ++ p ∷ []) safe false x) ≡ ((b || some_declares ps safe false x) || declares_open p safe false x)
behind_one_more b safe ps p x =
    ap (λ c. b || c) (list_any-append (λ q. declares_open q safe false x) ps (p ∷ []) ∙ ap (λ c. some_declares ps safe false x || c) (or-false (declares_open p safe false x)))
    ∙ sym (or_assoc b (some_declares ps safe false x) (declares_open p safe false x))

pub barred_behind_last : (barred : Barred) (safe : Bool) (ps : List Part) (p : Part) → barred_behind_all barred safe (ps ++ p ∷ []) ≡ barred_behind (barred_behind_all barred safe ps) safe p
barred_behind_last barred safe ps p = λ i x. behind_one_more (barred x) safe ps p x i
