-- Rows that join the groups of their keys, one after the other, give for each key the rows of that key: the key's group
-- is there once, and a row changes no other.
use Rattle.std.proofs.Common.{◌≡◌, Bool, true, false, cond, not, List, [], ◌∷◌, ◌++◌, length, map, refl, sym, ap, subst, ◌∙◌, append_assoc, append-nil, arith}
use Rattle.std.proofs.Math.Bool.{or-true}
use Rattle.std.proofs.lemmas.Bool.{or_parts}
use Rattle.std.specs.Prelude.{filter, ◌||◌}
use Rattle.gql_values3.specs.Datum.{Datum}
use Rattle.gql_eval.specs.RowLists.{RowList}
use Rattle.gql_table.specs.Distinct.{same_row, distinct_rows}
use Rattle.gql_table.specs.Machinery.Places.{among, added}
use Rattle.gql_table.specs.Machinery.GroupPlan.{Gathered, joined_group, gathered_rows}
use Rattle.gql_table.proofs.RowOrder.{same_row_exact, same_row_itself}
use Rattle.gql_table.proofs.PlaceLemmas.{news, news_of_none, among_more, news_more, news_known, or_rest}

-- the rows of a key, of rows whose keys are given
abbrev pub with_key : List Datum → RowList → RowList → RowList
with_key key (k ∷ ks) (r ∷ rs) = cond (same_row key k) (r ∷ with_key key ks rs) (with_key key ks rs)
with_key key _ _ = []

abbrev pub keys_of : List Gathered → RowList
keys_of gs = map (λ (g : Gathered). g.0) gs

-- a group with its rows among those that are still to join, and the group of a key
abbrev grown : RowList → RowList → Gathered → Gathered
grown keys rows g = (g.0, g.1 ++ with_key g.0 keys rows)

abbrev pub whole_group : RowList → RowList → List Datum → Gathered
whole_group keys rows key = (key, with_key key keys rows)

-- each key stands once
abbrev pub Apart : RowList → Type 0
Apart [] = Unit {0}
Apart (k ∷ ks) = (among ks k ≡ false) × Apart ks

differ_case : (a b : List Datum) (c : Bool) → same_row b a ≡ c → same_row a b ≡ false → same_row b a ≡ false
differ_case a b false q p = q
differ_case a b true q p =
    let same : b ≡ a = same_row_exact b a q in
    let yes : same_row a b ≡ true = ap (same_row a) same ∙ same_row_itself a in
    let no : true ≡ false = sym yes ∙ p in
    absurd (cc)

pub differ : (a b : List Datum) → same_row a b ≡ false → same_row b a ≡ false
differ a b p = differ_case a b (same_row b a) refl p

apart_last : (ks : RowList) (k : List Datum) → Apart ks → among ks k ≡ false → Apart (ks ++ k ∷ [])
apart_last [] k apart fresh = (refl, tt)
apart_last (x ∷ xs) k apart fresh =
    let other : same_row k x ≡ false = differ x k (or_parts (same_row x k) (among xs k) fresh).0 in
    let none : among (xs ++ k ∷ []) x ≡ false = among_more xs k x ∙ (λ i. apart.0 i || other i) in
    (none, apart_last xs k apart.1 (or_parts (same_row x k) (among xs k) fresh).1)

apart_case : (ks : RowList) (k : List Datum) (b : Bool) → among ks k ≡ b → Apart ks → Apart (cond b ks (ks ++ k ∷ []))
apart_case ks k true p apart = apart
apart_case ks k false p apart = apart_last ks k apart p

keys_case : (s b : Bool) (x k : List Datum) (ks rest : RowList) → rest ≡ cond b ks (ks ++ k ∷ []) → cond s (x ∷ ks) (x ∷ rest) ≡ cond (s || b) (x ∷ ks) (x ∷ ks ++ k ∷ [])
keys_case true b x k ks rest p = refl
keys_case false true x k ks rest p = ap (λ l. x ∷ l) p
keys_case false false x k ks rest p = ap (λ l. x ∷ l) p

keys_joined_case : (s : Bool) (x : List Datum) (one : RowList) (g : Gathered) (gs more : List Gathered) → x ≡ g.0
    → keys_of (cond s ((x, one) ∷ gs) (g ∷ more)) ≡ cond s (x ∷ keys_of gs) (x ∷ keys_of more)
keys_joined_case true x one g gs more p = refl
keys_joined_case false x one g gs more p = ap (λ y. y ∷ keys_of more) (sym p)

-- a row's key joins the keys
pub keys_joined : (gs : List Gathered) (k : List Datum) (r : List Datum) → keys_of (joined_group gs k r) ≡ added (keys_of gs) k
keys_joined [] k r = refl
keys_joined (g ∷ gs) k r =
    keys_joined_case (same_row g.0 k) g.0 (g.1 ++ r ∷ []) g gs (joined_group gs k r) refl
    ∙ keys_case (same_row g.0 k) (among (keys_of gs) k) g.0 k (keys_of gs) (keys_of (joined_group gs k r)) (keys_joined gs k r)

apart_joined : (gs : List Gathered) (k r : List Datum) → Apart (keys_of gs) → Apart (keys_of (joined_group gs k r))
apart_joined gs k r apart = subst Apart (sym (keys_joined gs k r)) (apart_case (keys_of gs) k (among (keys_of gs) k) refl apart)

-- a row of another key changes no group
others_stay : (gs : List Gathered) (k r : List Datum) (ks rs : RowList) → among (keys_of gs) k ≡ false → map (grown ks rs) gs ≡ map (grown (k ∷ ks) (r ∷ rs)) gs
others_stay [] k r ks rs p = refl
others_stay (g ∷ gs) k r ks rs p =
    let other : same_row g.0 k ≡ false = (or_parts (same_row g.0 k) (among (keys_of gs) k) p).0 in
    let rest = others_stay gs k r ks rs (or_parts (same_row g.0 k) (among (keys_of gs) k) p).1 in
    λ i. (g.0, g.1 ++ cond (sym other i) (r ∷ with_key g.0 ks rs) (with_key g.0 ks rs)) ∷ rest i

joined_new : (gs : List Gathered) (k r : List Datum) → among (keys_of gs) k ≡ false → joined_group gs k r ≡ gs ++ (k, r ∷ []) ∷ []
joined_new [] k r p = refl
joined_new (g ∷ gs) k r p =
    let other : same_row g.0 k ≡ false = (or_parts (same_row g.0 k) (among (keys_of gs) k) p).0 in
    ap (λ b. cond b ((g.0, g.1 ++ r ∷ []) ∷ gs) (g ∷ joined_group gs k r)) other ∙ ap (λ l. g ∷ l) (joined_new gs k r (or_parts (same_row g.0 k) (among (keys_of gs) k) p).1)

joins_case : (s : Bool) (g : Gathered) (gs : List Gathered) (k r : List Datum) (ks rs : RowList) → same_row g.0 k ≡ s → among (keys_of gs) g.0 ≡ false
    → (s ≡ false → map (grown ks rs) (joined_group gs k r) ≡ map (grown (k ∷ ks) (r ∷ rs)) gs)
    → map (grown ks rs) (cond s ((g.0, g.1 ++ r ∷ []) ∷ gs) (g ∷ joined_group gs k r))
    ≡ (g.0, g.1 ++ cond s (r ∷ with_key g.0 ks rs) (with_key g.0 ks rs)) ∷ map (grown (k ∷ ks) (r ∷ rs)) gs
joins_case true g gs k r ks rs p apart more =
    let same : g.0 ≡ k = same_row_exact g.0 k p in
    let none : among (keys_of gs) k ≡ false = sym (ap (among (keys_of gs)) same) ∙ apart in
    let rest = others_stay gs k r ks rs none in
    λ i. (g.0, append_assoc g.1 (r ∷ []) (with_key g.0 ks rs) i) ∷ rest i
joins_case false g gs k r ks rs p apart more = ap (λ l. (g.0, g.1 ++ with_key g.0 ks rs) ∷ l) (more refl)

-- a row joins the group of its key
joins : (gs : List Gathered) (k r : List Datum) (ks rs : RowList) → Apart (keys_of gs) → among (keys_of gs) k ≡ true
    → map (grown ks rs) (joined_group gs k r) ≡ map (grown (k ∷ ks) (r ∷ rs)) gs
joins [] k r ks rs apart p = absurd (cc)
joins (g ∷ gs) k r ks rs apart p =
    joins_case (same_row g.0 k) g gs k r ks rs refl apart.0 (λ q. joins gs k r ks rs apart.1 (or_rest (same_row g.0 k) (among (keys_of gs) k) p q))

-- groups of keys that are not among those with k don't have its row
later_case : (b : Bool) (x k r : List Datum) (ks rs : RowList) (rest more : List Gathered) (c : Bool) → same_row x k ≡ c → (b ≡ true → c ≡ false) → rest ≡ more
    → map (whole_group ks rs) (cond b (x ∷ []) []) ++ rest ≡ map (whole_group (k ∷ ks) (r ∷ rs)) (cond b (x ∷ []) []) ++ more
later_case true x k r ks rs rest more true p h q = let never : true ≡ false = h refl in absurd (cc)
later_case true x k r ks rs rest more false p h q = λ i. (x, cond (sym p i) (r ∷ with_key x ks rs) (with_key x ks rs)) ∷ q i
later_case false x k r ks rs rest more c p h q = q

cond_front : (f : List Datum → Gathered) (b : Bool) (x : List Datum) (xs : RowList) → map f (cond b (x ∷ xs) xs) ≡ map f (cond b (x ∷ []) []) ++ map f xs
cond_front f true x xs = refl
cond_front f false x xs = refl

not_there : (known : RowList) (k x : List Datum) (c : Bool) → same_row x k ≡ c → among known k ≡ true → not (among known x) ≡ true → c ≡ false
not_there known k x false p there q = refl
not_there known k x true p there q =
    let same : x ≡ k = same_row_exact x k p in
    let yes : not (among known x) ≡ false = ap not (ap (among known) same ∙ there) in
    let no : true ≡ false = sym q ∙ yes in
    absurd (cc)

later_groups : (known : RowList) (k r : List Datum) (ks rs ds : RowList) → among known k ≡ true
    → map (whole_group ks rs) (news known ds) ≡ map (whole_group (k ∷ ks) (r ∷ rs)) (news known ds)
later_groups known k r ks rs [] there = refl
later_groups known k r ks rs (d ∷ ds) there =
    cond_front (whole_group ks rs) (not (among known d)) d (news known ds)
    ∙ later_case (not (among known d)) d k r ks rs (map (whole_group ks rs) (news known ds)) (map (whole_group (k ∷ ks) (r ∷ rs)) (news known ds)) (same_row d k) refl (not_there known k d (same_row d k) refl there) (later_groups known k r ks rs ds there)
    ∙ sym (cond_front (whole_group (k ∷ ks) (r ∷ rs)) (not (among known d)) d (news known ds))

added_has : (ks : RowList) (k : List Datum) (b : Bool) → among ks k ≡ b → among (cond b ks (ks ++ k ∷ [])) k ≡ true
added_has ks k true p = p
added_has ks k false p = among_more ks k k ∙ ap (λ c. among ks k || c) (same_row_itself k) ∙ or-true (among ks k)

-- one row joins, and then the others
step_case : (gs : List Gathered) (k r : List Datum) (ks rs : RowList) (b : Bool) → among (keys_of gs) k ≡ b → Apart (keys_of gs)
    → map (grown ks rs) (joined_group gs k r) ++ map (whole_group (k ∷ ks) (r ∷ rs)) (news (cond b (keys_of gs) (keys_of gs ++ k ∷ [])) (distinct_rows ks))
    ≡ map (grown (k ∷ ks) (r ∷ rs)) gs
    ++ map (whole_group (k ∷ ks) (r ∷ rs)) (cond (not b) (k ∷ news (keys_of gs) (filter (λ s. not (same_row k s)) (distinct_rows ks))) (news (keys_of gs) (filter (λ s. not (same_row k s)) (distinct_rows ks))))
step_case gs k r ks rs true p apart =
    let front = joins gs k r ks rs apart p in
    let back = ap (map (whole_group (k ∷ ks) (r ∷ rs))) (sym (news_known (keys_of gs) k (distinct_rows ks) p)) in
    λ i. front i ++ back i
step_case gs k r ks rs false p apart =
    let F = whole_group (k ∷ ks) (r ∷ rs) in
    let new : joined_group gs k r ≡ gs ++ (k, r ∷ []) ∷ [] = joined_new gs k r p in
    let here : grown ks rs (k, r ∷ []) ≡ F k = λ i. (k, cond (sym (same_row_itself k) i) (r ∷ with_key k ks rs) (with_key k ks rs)) in
    let front : map (grown ks rs) (joined_group gs k r) ≡ map (grown (k ∷ ks) (r ∷ rs)) gs ++ F k ∷ [] =
    ap (map (grown ks rs)) new ∙ map_last (grown ks rs) gs (k, r ∷ []) ∙ (λ i. others_stay gs k r ks rs p i ++ here i ∷ []) in
    let back = ap (map F) (news_more (keys_of gs) k (distinct_rows ks)) in
    (λ i. front i ++ back i) ∙ append_assoc (map (grown (k ∷ ks) (r ∷ rs)) gs) (F k ∷ []) (map F (news (keys_of gs) (filter (λ s. not (same_row k s)) (distinct_rows ks))))
  where
    map_last : {A B : Type 0} (f : A → B) (xs : List A) (x : A) → map f (xs ++ x ∷ []) ≡ map f xs ++ f x ∷ []
    map_last f [] x = refl
    map_last f (y ∷ ys) x = ap (λ l. f y ∷ l) (map_last f ys x)

grown_none : (gs : List Gathered) (rows : RowList) → gs ≡ map (grown [] rows) gs ++ []
grown_none [] rows = refl
grown_none (g ∷ gs) rows = λ i. (g.0, sym (append-nil g.1) i) ∷ grown_none gs rows i

gathered_is : (gs : List Gathered) (keys rows : RowList) → length keys ≡ length rows → Apart (keys_of gs)
    → gathered_rows gs keys rows ≡ map (grown keys rows) gs ++ map (whole_group keys rows) (news (keys_of gs) (distinct_rows keys))
gathered_is gs [] rows long apart = grown_none gs rows
gathered_is gs (k ∷ ks) [] long apart = absurd (omega (arith, long))
gathered_is gs (k ∷ ks) (r ∷ rs) long apart =
    let more = gathered_is (joined_group gs k r) ks rs (omega (arith, long)) (apart_joined gs k r apart) in
    let new : news (keys_of (joined_group gs k r)) (distinct_rows ks) ≡ news (added (keys_of gs) k) (distinct_rows ks) = ap (λ l. news l (distinct_rows ks)) (keys_joined gs k r) in
    let later = ap (map (whole_group ks rs)) new ∙ later_groups (added (keys_of gs) k) k r ks rs (distinct_rows ks) (added_has (keys_of gs) k (among (keys_of gs) k) refl) in
    more ∙ ap (λ l. map (grown ks rs) (joined_group gs k r) ++ l) later ∙ step_case gs k r ks rs (among (keys_of gs) k) refl apart

-- the groups are those of each key, in the order of their first rows
pub gathered_all : (keys rows : RowList) → length keys ≡ length rows → gathered_rows [] keys rows ≡ map (whole_group keys rows) (distinct_rows keys)
gathered_all keys rows long = gathered_is [] keys rows long tt ∙ ap (map (whole_group keys rows)) (news_of_none (distinct_rows keys))
