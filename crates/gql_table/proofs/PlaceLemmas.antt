-- The groups of equal rows, as they grow row by row.
use Rattle.std.proofs.Common.{◌≡◌, ℕ, zero, suc, ◌+◌, ◌<◌, Bool, true, false, cond, not, List, [], ◌∷◌, ◌++◌, length, drop, get_or, add-one, refl, sym, ap, ◌∙◌, append_assoc, append-nil, arith, Some, None}
use Rattle.std.proofs.Math.Bool.{or-false}
use Rattle.std.proofs.lemmas.Bool.{or_parts}
use Rattle.std.specs.Prelude.{filter, ◌||◌}
use Rattle.gql_values3.specs.Datum.{Datum}
use Rattle.gql_eval.specs.RowLists.{RowList}
use Rattle.gql_table.specs.Distinct.{same_row, distinct_rows}
use Rattle.gql_table.specs.Machinery.Places.{among, place, added, found_place, places}
use Rattle.gql_table.proofs.RowOrder.{same_row_exact}

-- the rows that are not among them
abbrev pub news : RowList → RowList → RowList
news ks rs = filter (λ s. not (among ks s)) rs

-- the first of their kind, some of which are there
abbrev pub gathered : RowList → RowList → RowList
gathered ks [] = ks
gathered ks (r ∷ rs) = gathered (added ks r) rs

pub news_of_none : (rs : RowList) → news [] rs ≡ rs
news_of_none [] = refl
news_of_none (r ∷ rs) = ap (λ l. r ∷ l) (news_of_none rs)

or_last : (b c d e : Bool) → e ≡ (c || d) → (b || e) ≡ ((b || c) || d)
or_last true c d e p = refl
or_last false c d e p = p

pub among_more : (ks : RowList) (r s : List Datum) → among (ks ++ r ∷ []) s ≡ (among ks s || same_row r s)
among_more [] r s = or-false (same_row r s)
among_more (k ∷ ks) r s = or_last (same_row k s) (among ks s) (same_row r s) (among (ks ++ r ∷ []) s) (among_more ks r s)

-- two filters in a row, and one of both tests
more_case : (b c : Bool) (s : List Datum) (xs ys zs : RowList) → xs ≡ zs → cond (not (b || c)) (s ∷ xs) xs ≡ cond (not c) (cond (not b) (s ∷ zs) zs) zs
more_case true true s xs ys zs p = p
more_case true false s xs ys zs p = p
more_case false true s xs ys zs p = p
more_case false false s xs ys zs p = ap (λ l. s ∷ l) p

cond_filter : (b : Bool) (f : List Datum → Bool) (s : List Datum) (zs : RowList) → filter f (cond b (s ∷ zs) zs) ≡ cond b (cond (f s) (s ∷ filter f zs) (filter f zs)) (filter f zs)
cond_filter true f s zs = refl
cond_filter false f s zs = refl

pub news_more : (ks : RowList) (r : List Datum) (ds : RowList) → news (ks ++ r ∷ []) ds ≡ news ks (filter (λ s. not (same_row r s)) ds)
news_more ks r [] = refl
news_more ks r (s ∷ ds) =
    ap (λ b. cond (not b) (s ∷ news (ks ++ r ∷ []) ds) (news (ks ++ r ∷ []) ds)) (among_more ks r s)
    ∙ more_case (among ks s) (same_row r s) s (news (ks ++ r ∷ []) ds) [] (news ks (filter (λ t. not (same_row r t)) ds)) (news_more ks r ds)
    ∙ sym (cond_filter (not (same_row r s)) (λ t. not (among ks t)) s (filter (λ t. not (same_row r t)) ds))

-- a row that is among them drops nothing that they don't
known_case : (b c : Bool) (s : List Datum) (xs zs : RowList) → (c ≡ true → b ≡ true) → xs ≡ zs → cond (not c) (cond (not b) (s ∷ xs) xs) xs ≡ cond (not b) (s ∷ zs) zs
known_case true true s xs zs h p = p
known_case true false s xs zs h p = p
known_case false true s xs zs h p = let never : false ≡ true = h refl in absurd (cc)
known_case false false s xs zs h p = ap (λ l. s ∷ l) p

pub news_known : (ks : RowList) (r : List Datum) (ds : RowList) → among ks r ≡ true → news ks (filter (λ s. not (same_row r s)) ds) ≡ news ks ds
news_known ks r [] known = refl
news_known ks r (s ∷ ds) known =
    cond_filter (not (same_row r s)) (λ t. not (among ks t)) s (filter (λ t. not (same_row r t)) ds)
    ∙ known_case (among ks s) (same_row r s) s (news ks (filter (λ t. not (same_row r t)) ds)) (news ks ds) (λ same. sym (ap (among ks) (same_row_exact r s same)) ∙ known) (news_known ks r ds known)

gathered_case : (ks : RowList) (r : List Datum) (rs : RowList) (b : Bool) → among ks r ≡ b
    → gathered (cond b ks (ks ++ r ∷ [])) rs ≡ cond b ks (ks ++ r ∷ []) ++ news (cond b ks (ks ++ r ∷ [])) (distinct_rows rs)
    → gathered (cond b ks (ks ++ r ∷ [])) rs ≡ ks ++ cond (not b) (r ∷ news ks (filter (λ s. not (same_row r s)) (distinct_rows rs))) (news ks (filter (λ s. not (same_row r s)) (distinct_rows rs)))
gathered_case ks r rs true known h = h ∙ ap (λ l. ks ++ l) (sym (news_known ks r (distinct_rows rs) known))
gathered_case ks r rs false fresh h = h ∙ append_assoc ks (r ∷ []) (news (ks ++ r ∷ []) (distinct_rows rs)) ∙ ap (λ l. ks ++ r ∷ l) (news_more ks r (distinct_rows rs))

gathered_is : (ks rs : RowList) → gathered ks rs ≡ ks ++ news ks (distinct_rows rs)
gathered_is ks [] = sym (append-nil ks)
gathered_is ks (r ∷ rs) = gathered_case ks r rs (among ks r) refl (gathered_is (added ks r) rs)

pub gathered_all : (rs : RowList) → gathered [] rs ≡ distinct_rows rs
gathered_all rs = gathered_is [] rs ∙ news_of_none (distinct_rows rs)

known_place : (b : Bool) (m n : ℕ) → (b ≡ false → m < n) → cond b 0 (suc m) < suc n
known_place true m n h = omega arith
known_place false m n h = let below : m < n = h refl in omega arith

pub or_rest : (b c : Bool) → (b || c) ≡ true → b ≡ false → c ≡ true
or_rest true c p q = absurd (cc)
or_rest false c p q = p

-- a row has a place among them where it is one of them, and else their number
pub place_known : (ks : RowList) (r : List Datum) → among ks r ≡ true → place ks r < length ks
place_known [] r p = absurd (cc)
place_known (k ∷ ks) r p = known_place (same_row k r) (place ks r) (length ks) (λ q. place_known ks r (or_rest (same_row k r) (among ks r) p q))

pub place_new : (ks : RowList) (r : List Datum) → among ks r ≡ false → place ks r ≡ length ks
place_new [] r p = refl
place_new (k ∷ ks) r p =
    ap (λ b. cond b 0 (suc (place ks r))) (or_parts (same_row k r) (among ks r) p).0 ∙ ap suc (place_new ks r (or_parts (same_row k r) (among ks r) p).1)

added_if : (ks : RowList) (r : List Datum) (b : Bool) → among ks r ≡ b → place ks r ≡ length ks → cond b ks (ks ++ r ∷ []) ≡ ks ++ r ∷ []
added_if ks r true known p = let below = place_known ks r known in absurd (omega arith)
added_if ks r false known p = refl

pub added_new : (ks : RowList) (r : List Datum) → place ks r ≡ length ks → added ks r ≡ ks ++ r ∷ []
added_new ks r p = added_if ks r (among ks r) refl p

stays_if : (ks : RowList) (r : List Datum) (b : Bool) → among ks r ≡ b → (place ks r ≡ length ks → ⊥) → cond b ks (ks ++ r ∷ []) ≡ ks
stays_if ks r true known p = refl
stays_if ks r false fresh p = absurd (p (place_new ks r fresh))

pub added_known : (ks : RowList) (r : List Datum) → (place ks r ≡ length ks → ⊥) → added ks r ≡ ks
added_known ks r p = stays_if ks r (among ks r) refl p

pub length_places : (ks rs : RowList) → length (places ks rs) ≡ length rs
length_places ks [] = refl
length_places ks (r ∷ rs) = ap suc (length_places (added ks r) rs)

-- a number of a list, where those from an index on are known
pub number_here : (ns : List ℕ) (i x : ℕ) (rest : List ℕ) → drop i ns ≡ x ∷ rest → (i < length ns) × (get_or ns i 0 ≡ x) × (drop (i + 1) ns ≡ rest)
number_here [] zero x rest p = absurd (cc)
number_here [] (suc i) x rest p = absurd (cc)
number_here (n ∷ ns) zero x rest p = (omega arith, cc, cc)
number_here (n ∷ ns) (suc i) x rest p =
    let more = number_here ns i x rest p in
    (omega (arith, more.0), more.1, rw add-one (sym (ap (λ k. drop k ns) (add-one i)) ∙ more.2))

some_case : (b : Bool) (m n : ℕ) → cond b (Some m) None ≡ Some n → (b ≡ true) × (n ≡ m)
some_case true m n p = (refl, cc)
some_case false m n p = absurd (cc)

none_case : (b : Bool) (m : ℕ) → cond b (Some m) None ≡ None → b ≡ false
none_case true m p = absurd (cc)
none_case false m p = refl

pub found_some : (ks : RowList) (r : List Datum) (n : ℕ) → found_place ks r ≡ Some n → (among ks r ≡ true) × (n ≡ place ks r)
found_some ks r n p = some_case (among ks r) (place ks r) n p

pub found_none : (ks : RowList) (r : List Datum) → found_place ks r ≡ None → among ks r ≡ false
found_none ks r p = none_case (among ks r) (place ks r) p

pub added_there : (ks : RowList) (r : List Datum) → among ks r ≡ true → added ks r ≡ ks
added_there ks r p = ap (λ b. cond b ks (ks ++ r ∷ [])) p

pub added_fresh : (ks : RowList) (r : List Datum) → among ks r ≡ false → added ks r ≡ ks ++ r ∷ []
added_fresh ks r p = ap (λ b. cond b ks (ks ++ r ∷ [])) p

before_case : (b : Bool) (m n : ℕ) → (b ≡ false → m ≡ n) → cond b 0 (suc m) ≡ cond b 0 (suc n)
before_case true m n h = refl
before_case false m n h = ap suc (h refl)

pub place_before : (ks zs : RowList) (s : List Datum) → among ks s ≡ true → place (ks ++ zs) s ≡ place ks s
place_before [] zs s p = absurd (cc)
place_before (k ∷ ks) zs s p = before_case (same_row k s) (place (ks ++ zs) s) (place ks s) (λ q. place_before ks zs s (or_rest (same_row k s) (among ks s) p q))

pub place_last : (ks : RowList) (r s : List Datum) → among ks s ≡ false → same_row r s ≡ true → place (ks ++ r ∷ []) s ≡ length ks
place_last [] r s p q = ap (λ b. cond b 0 1) q
place_last (k ∷ ks) r s p q =
    ap (λ b. cond b 0 (suc (place (ks ++ r ∷ []) s))) (or_parts (same_row k s) (among ks s) p).0 ∙ ap suc (place_last ks r s (or_parts (same_row k s) (among ks s) p).1 q)

more_found : (ks : RowList) (r s : List Datum) (b c : Bool) → among ks s ≡ b → same_row r s ≡ c → (c ≡ true → b ≡ false)
    → cond (b || c) (Some (place (ks ++ r ∷ []) s)) None ≡ cond c (Some (length ks)) (cond b (Some (place ks s)) None)
more_found ks r s true true p q h = let never : true ≡ false = h refl in absurd (cc)
more_found ks r s true false p q h = ap Some (place_before ks (r ∷ []) s p)
more_found ks r s false true p q h = ap Some (place_last ks r s p q)
more_found ks r s false false p q h = refl

-- one more first row
pub found_more : (ks : RowList) (r s : List Datum) → among ks r ≡ false → found_place (ks ++ r ∷ []) s ≡ cond (same_row r s) (Some (length ks)) (found_place ks s)
found_more ks r s fresh =
    ap (λ b. cond b (Some (place (ks ++ r ∷ []) s)) None) (among_more ks r s)
    ∙ more_found ks r s (among ks s) (same_row r s) refl refl (λ q. sym (ap (among ks) (same_row_exact r s q)) ∙ fresh)
