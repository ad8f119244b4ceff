-- Places of names, from one column on.
use Rattle.std.proofs.Common.{◌≡◌, ℕ, suc, ◌+◌, ◌<◌, Bool, true, false, cond, List, [], ◌∷◌, length, drop, get_or, Option, Some, None, refl, ap, sym, ◌∙◌, arith}
use Rattle.std.specs.Prelude.{option_map}
use Rattle.std.proofs.lemmas.Grind.{common_steps}
use Rattle.std.specs.Str.{bytes_eq}
use Rattle.std.specs.Cmp.Lexicographic.{nat_list_eq_equiv}
use Rattle.gql_values3.specs.Texts.{same_text}
use Rattle.gql_values3.specs.declared.table.ColumnKind.{ColumnKind}
use Rattle.gql_eval.specs.Machinery.Places.{place_among}

-- the place of a name among columns that begin at a place
abbrev pub placed : ℕ → List (List ℕ × ColumnKind) → List ℕ → Option ℕ
placed i [] x = None
placed i (c ∷ cs) x = cond (same_text x c.0) (Some i) (placed (suc i) cs x)

shifted : (b : Bool) (i : ℕ) (o p : Option ℕ) → o ≡ option_map suc p → cond b (Some (suc i)) o ≡ option_map suc (cond b (Some i) p)
shifted true i o p h = refl
shifted false i o p h = h

later : (i : ℕ) (cs : List (List ℕ × ColumnKind)) (x : List ℕ) → placed (suc i) cs x ≡ option_map suc (placed i cs x)
later i [] x = refl
later i (c ∷ cs) x = shifted (same_text x c.0) i (placed (suc (suc i)) cs x) (placed (suc i) cs x) (later (suc i) cs x)

pub from_first : (cs : List (List ℕ × ColumnKind)) (x : List ℕ) → placed 0 cs x ≡ place_among cs x
from_first [] x = refl
from_first (c ∷ cs) x = ap (λ o. cond (same_text x c.0) (Some 0) o) (later 0 cs x ∙ ap (option_map suc) (from_first cs x))

-- the columns from i on
pub placed_step : (cs : List (List ℕ × ColumnKind)) (i : ℕ) (c : List ℕ × ColumnKind) (x : List ℕ) → i < length cs → c ≡ get_or cs i c
    → placed i (drop i cs) x ≡ cond (same_text x c.0) (Some i) (placed (i + 1) (drop (i + 1) cs) x)
placed_step cs i c x h p = grind (arith, common_steps)

pub none_placed : (cs : List (List ℕ × ColumnKind)) (i : ℕ) (x : List ℕ) → length cs ≡ i → placed i (drop i cs) x ≡ None
none_placed cs i x h = grind (arith, common_steps)

-- with the column before these put in
pub placed_before : (cs : List (List ℕ × ColumnKind)) (i k : ℕ) (c : List ℕ × ColumnKind) (name x : List ℕ) (old new : Option ℕ) → k < length cs → i ≡ k + 1 → c ≡ get_or cs k c → name ≡ c.0
    → old ≡ placed i (drop i cs) x → new ≡ cond (bytes_eq name x) (Some k) old → new ≡ placed k (drop k cs) x
placed_before cs i k c name x old new below next here named was put =
    put ∙ ap (λ b. cond b (Some k) old) (nat_list_eq_equiv.symm name x ∙ ap (same_text x) named)
    ∙ ap (λ o. cond (same_text x c.0) (Some k) o) (was ∙ ap (λ n. placed n (drop n cs) x) next) ∙ sym (placed_step cs k c x below here)
