-- A column more behind others: the places of names then, the map that learns one, and what the column of a name holds.
use Rattle.std.proofs.Common.{◌≡◌, ℕ, suc, Bool, true, false, cond, List, [], ◌∷◌, ◌++◌, length, Option, Some, None, refl, sym, ap, ◌∙◌, is_some, slice_get}
use Rattle.std.specs.Prelude.{option_map, find}
use Rattle.std.specs.Str.{bytes_eq}
use Rattle.std.specs.Cmp.Lexicographic.{nat_list_eq_equiv}
use Rattle.gql_values3.specs.Texts.{same_text}
use Rattle.gql_values3.specs.declared.table.ColumnKind.{ColumnKind}
use Rattle.gql_values3.proofs.WordLemmas.{same_is}
use Rattle.gql_eval.specs.Machinery.Places.{place_among}
use Rattle.gql_eval.specs.Machinery.Noting.{earlier, place_if_same}

-- a column more at the end
behind : (b t : Bool) (o p : Option ℕ) (n : ℕ) → p ≡ earlier o (cond t (Some n) None)
    → cond b (Some 0) (option_map suc p) ≡ earlier (cond b (Some 0) (option_map suc o)) (cond t (Some (suc n)) None)
behind true t o p n h = refl
behind false t (Some i) p n h = ap (option_map suc) h
behind false true None p n h = ap (option_map suc) h
behind false false None p n h = ap (option_map suc) h

pub place_added : (cs : List (List ℕ × ColumnKind)) (name : List ℕ) (k : ColumnKind) (x : List ℕ)
    → place_among (cs ++ (name, k) ∷ []) x ≡ earlier (place_among cs x) (place_if_same x name (length cs))
place_added [] name k x = alone (same_text x name)
  where
    alone : (b : Bool) → cond b (Some 0) None ≡ earlier None (cond b (Some 0) None)
    alone true = refl
    alone false = refl
place_added (c ∷ cs) name k x =
    behind (same_text x c.0) (same_text x name) (place_among cs x) (place_among (cs ++ (name, k) ∷ []) x) (length cs) (place_added cs name k x)

-- a map that knows the name
known_at : (o : Option ℕ) (b : Bool) (n : ℕ) → (b ≡ true → is_some o ≡ true) → o ≡ earlier o (cond b (Some n) None)
known_at (Some i) b n h = refl
known_at None true n h = absurd (let e : false ≡ true = h refl in cc)
known_at None false n h = refl

pub known : (old : List ℕ → Option ℕ) (name : List ℕ) (place : ℕ) → is_some (old name) ≡ true → (x : List ℕ) → old x ≡ earlier (old x) (place_if_same x name place)
known old name place h x = known_at (old x) (same_text x name) place (λ s. ap (λ y. is_some (old y)) (same_is x name s) ∙ h)

-- a map that learns it
learnt_at : (o : Option ℕ) (b : Bool) (n : ℕ) → (b ≡ true → is_some o ≡ false) → cond b (Some n) o ≡ earlier o (cond b (Some n) None)
learnt_at None true n h = refl
learnt_at None false n h = refl
learnt_at (Some i) true n h = absurd (let e : true ≡ false = h refl in cc)
learnt_at (Some i) false n h = refl

pub learnt : (old new : List ℕ → Option ℕ) (name bs : List ℕ) (place : ℕ) → bs ≡ name → is_some (old name) ≡ false
    → ((x : List ℕ) → new x ≡ cond (bytes_eq bs x) (Some place) (old x)) → (x : List ℕ) → new x ≡ earlier (old x) (place_if_same x name place)
learnt old new name bs place same h puts x =
    puts x ∙ ap (λ y. cond (bytes_eq y x) (Some place) (old x)) same ∙ ap (λ b. cond b (Some place) (old x)) (nat_list_eq_equiv.symm name x)
    ∙ learnt_at (old x) (same_text x name) place (λ s. ap (λ y. is_some (old y)) (same_is x name s) ∙ h)

pub placed_on : (old new : List ℕ → Option ℕ) (cs : List (List ℕ × ColumnKind)) (name : List ℕ) (k : ColumnKind) → ((x : List ℕ) → old x ≡ place_among cs x)
    → ((x : List ℕ) → new x ≡ earlier (old x) (place_if_same x name (length cs))) → (x : List ℕ) → new x ≡ place_among (cs ++ (name, k) ∷ []) x
placed_on old new cs name k was notes x =
    notes x ∙ ap (λ o. earlier o (place_if_same x name (length cs))) (was x) ∙ sym (place_added cs name k x)

-- what a column holds, by its place
abbrev pub kind_by : List (List ℕ × ColumnKind) → Option ℕ → Option ColumnKind
kind_by cs None = None
kind_by cs (Some i) = option_map (λ (c : List ℕ × ColumnKind). c.1) (slice_get cs i)

kind_behind : (c : List ℕ × ColumnKind) (cs : List (List ℕ × ColumnKind)) (o : Option ℕ) → kind_by (c ∷ cs) (option_map suc o) ≡ kind_by cs o
kind_behind c cs None = refl
kind_behind c cs (Some i) = refl

kind_placed : (b : Bool) (c : List ℕ × ColumnKind) (cs : List (List ℕ × ColumnKind)) (found : Option (List ℕ × ColumnKind)) (o : Option ℕ)
    → option_map (λ (c : List ℕ × ColumnKind). c.1) found ≡ kind_by cs o
    → option_map (λ (c : List ℕ × ColumnKind). c.1) (cond b (Some c) found) ≡ kind_by (c ∷ cs) (cond b (Some 0) (option_map suc o))
kind_placed true c cs found o h = refl
kind_placed false c cs found o h = h ∙ sym (kind_behind c cs o)

pub kind_of_place : (cs : List (List ℕ × ColumnKind)) (x : List ℕ) → option_map (λ (c : List ℕ × ColumnKind). c.1) (find (λ c. same_text x c.0) cs) ≡ kind_by cs (place_among cs x)
kind_of_place [] x = refl
kind_of_place (c ∷ cs) x = kind_placed (same_text x c.0) c cs (find (λ c. same_text x c.0) cs) (place_among cs x) (kind_of_place cs x)
