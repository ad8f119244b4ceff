-- The place of a name by a search from the first on.
use Rattle.std.proofs.Common.{◌≡◌, ℕ, suc, ◌+◌, ◌<◌, ◌≤◌, Bool, true, false, cond, List, [], ◌∷◌, length, Some, None, refl, ap, sym, ◌∙◌, arith}
use Rattle.std.specs.Prelude.{option_map, position, nat_lt, not}
use Rattle.std.specs.List.{position_or_len}
use Rattle.std.proofs.lemmas.Bool.{lt-ltb, ltb-true, le-ltb, ltb-false}
use Rattle.gql_values3.specs.Texts.{same_text}
use Rattle.gql_eval.specs.Machinery.Places.{name_among}

-- a test of numbers and of those behind them
later_test : (k l : ℕ) (b : Bool) → nat_lt k l ≡ b → nat_lt (suc k) (suc l) ≡ b
later_test k l true h = lt-ltb (suc k) (suc l) (omega (arith, ltb-true k l h))
later_test k l false h = le-ltb (suc k) (suc l) (omega (arith, ltb-false k l h))

later_place : (b c : Bool) (k : ℕ) → c ≡ b → option_map suc (cond b (Some k) None) ≡ cond c (Some (suc k)) None
later_place true true k h = refl
later_place false false k h = refl
later_place true false k h = absurd (cc)
later_place false true k h = absurd (cc)

-- the first of the names of a match, by the test of each
place_later : (t : Bool) (k l m : ℕ) → m ≡ suc k → cond t (Some 0) (option_map suc (cond (nat_lt k l) (Some k) None)) ≡ cond (nat_lt (cond (not t) m 0) (suc l)) (Some (cond (not t) m 0)) None
place_later true k l m h = ap (λ b. cond b (Some 0) None) (sym (lt-ltb 0 (suc l) (omega arith)))
place_later false k l m h = later_place (nat_lt k l) (nat_lt (suc k) (suc l)) k (later_test k l (nat_lt k l) refl) ∙ ap (λ n. cond (nat_lt n (suc l)) (Some n) None) (sym h)

pub name_position : (ns : List (List ℕ)) (x : List ℕ) → name_among ns x ≡ position (λ n. same_text x n) ns
name_position [] x = refl
name_position (n ∷ ns) x =
    let k = position_or_len (λ (m : List ℕ). same_text x m) ns in
    ap (λ o. cond (same_text x n) (Some 0) (option_map suc o)) (name_position ns x) ∙ place_later (same_text x n) k (length ns) (1 + k) (omega arith)
