-- The keys after changes: they ascend, and which of them stand.
--
-- Both go by the changes and, within one, by the keys: a key below the change stays in front of all that follows, and
-- one that is above it, or its own, ends that change.
use Rattle.std.proofs.Common.{◌≡◌, ℕ, Bool, true, false, cond, ◌&&◌, ◌||◌, List, [], ◌∷◌, ◌++◌, map, refl, sym, ◌∙◌, ap, subst}
use Rattle.std.specs.Ordering.{is_lt, is_eq, ordering_reverse}
use Rattle.std.specs.Cmp.Lexicographic.{bytes_decides, nat_list_cmp_total, texts_ties}
use Rattle.std.specs.declared.cmp.Ordering.{Ordering}
use Rattle.std.specs.declared.cmp.Ordering.TheVariants.{Less, Equal, Greater}
use Rattle.std.proofs.lemmas.Bool.{and_from, and_parts}
use Rattle.std.proofs.lemmas.Map.Lookups.{exact_bytes}
use Rattle.gql_values3.specs.Texts.{same_text, ascend_above, texts_ascend}
use Rattle.gql_keep_sql.specs.declared.changes.Change.{Change}
use Rattle.gql_keep_sql.specs.Keys.{has_key}
use Rattle.gql_keep_sql.specs.Machinery.Merge.{changes_ascend, is_put_in, is_changed_in, stands_under, key_cmp, below, below_compared, above, above_compared, put_before, merged}

abbrev pub key_of : Change → List ℕ
key_of c = c.key

-- ---- orders of keys

pub less_from_greater : (a b : List ℕ) → key_cmp a b ≡ Greater → key_cmp b a ≡ Less
less_from_greater a b h = nat_list_cmp_total.antisymm b a ∙ ap ordering_reverse h

-- what is below is not the same
pub differs : (a b : List ℕ) → key_cmp a b ≡ Less → same_text a b ≡ false
differs a b h = texts_ties a b ∙ ap is_eq h

-- ---- ascending keys

pub head_above : (low key : List ℕ) (keys : List (List ℕ)) → ascend_above low (key ∷ keys) ≡ true → key_cmp low key ≡ Less
head_above low key keys h = less (key_cmp low key) ((and_parts (is_lt (key_cmp low key)) (ascend_above key keys) h).0)
  where
    less : (o : Ordering) → is_lt o ≡ true → o ≡ Less
    less Less h = refl
    less Equal h = absurd (cc)
    less Greater h = absurd (cc)

pub tail_above : (low key : List ℕ) (keys : List (List ℕ)) → ascend_above low (key ∷ keys) ≡ true → ascend_above key keys ≡ true
tail_above low key keys h = (and_parts (is_lt (key_cmp low key)) (ascend_above key keys) h).1

pub cons_above : (low key : List ℕ) (keys : List (List ℕ)) → key_cmp low key ≡ Less → ascend_above key keys ≡ true → ascend_above low (key ∷ keys) ≡ true
cons_above low key keys h k = and_from (is_lt (key_cmp low key)) (ascend_above key keys) (ap is_lt h) k

lower : (a b : List ℕ) (keys : List (List ℕ)) → key_cmp a b ≡ Less → ascend_above b keys ≡ true → ascend_above a keys ≡ true
lower a b [] h g = refl
lower a b (key ∷ keys) h g = cons_above a key keys (nat_list_cmp_total.trans a b key h (head_above b key keys g)) (tail_above b key keys g)

-- what all keys are above is none of them
pub absent : (low : List ℕ) (keys : List (List ℕ)) → ascend_above low keys ≡ true → has_key keys low ≡ false
absent low [] h = refl
absent low (key ∷ keys) h =
    let first = head_above low key keys h in
    rw (differs low key first) (absent low keys (lower low key keys first (tail_above low key keys h)))

-- ---- the keys after the changes ascend

put_above : (low : List ℕ) (c : Change) (keys : List (List ℕ)) → key_cmp low c.key ≡ Less → ascend_above c.key keys ≡ true → ascend_above low (put_before c keys) ≡ true
put_above low c keys h k = tested c.is_put
  where
    tested : (is_put : Bool) → ascend_above low (cond is_put (c.key ∷ keys) keys) ≡ true
    tested true = cons_above low c.key keys h k
    tested false = lower low c.key keys h k

by_order : (P : Ordering → Type 0) (o : Ordering) → (o ≡ Less → P Less) → (o ≡ Equal → P Equal) → (o ≡ Greater → P Greater) → P o
by_order P Less f g h = f refl
by_order P Equal f g h = g refl
by_order P Greater f g h = h refl

-- the same of all later changes, and so of one more
change_above : (c : Change) (more : List Change) → ((keys : List (List ℕ)) → ascend_above c.key (map key_of more) ≡ true → ascend_above c.key keys ≡ true → ascend_above c.key (merged keys more) ≡ true)
    → (keys : List (List ℕ)) (low : List ℕ) → ascend_above low (map key_of (c ∷ more)) ≡ true → ascend_above low keys ≡ true → ascend_above low (merged keys (c ∷ more)) ≡ true
change_above c more later [] low h k =
    put_above low c (merged [] more) (head_above low c.key (map key_of more) h) (later [] (tail_above low c.key (map key_of more) h) refl)
change_above c more later (key ∷ keys) low h k =
    let first = head_above low c.key (map key_of more) h in
    let rest = tail_above low c.key (map key_of more) h in
    let behind = tail_above low key keys k in
    by_order
    (λ o. ascend_above low (below_compared o key (below c.key keys) ++ put_before c (merged (above_compared o key keys (above c.key keys)) more)) ≡ true)
    (key_cmp key c.key)
    (λ is. cons_above low key (below c.key keys ++ put_before c (merged (above c.key keys) more)) (head_above low key keys k)
    (change_above c more later keys key (cons_above key c.key (map key_of more) is rest) behind))
    (λ is. put_above low c (merged keys more) first (later keys rest (subst (λ x. ascend_above x keys ≡ true) (exact_bytes key c.key is) behind)))
    (λ is. put_above low c (merged (key ∷ keys) more) first (later (key ∷ keys) rest (cons_above c.key key keys (less_from_greater key c.key is) behind)))

merged_above : (changes : List Change) (keys : List (List ℕ)) (low : List ℕ) → ascend_above low (map key_of changes) ≡ true → ascend_above low keys ≡ true → ascend_above low (merged keys changes) ≡ true
merged_above [] keys low h k = k
merged_above (c ∷ more) keys low h k = change_above c more (λ ks. merged_above more ks c.key) keys low h k

pub ascend_behind : (low : List ℕ) (keys : List (List ℕ)) → ascend_above low keys ≡ true → texts_ascend keys ≡ true
ascend_behind low [] h = refl
ascend_behind low (key ∷ keys) h = tail_above low key keys h

put_ascends : (c : Change) (keys : List (List ℕ)) → ascend_above c.key keys ≡ true → texts_ascend (put_before c keys) ≡ true
put_ascends c keys h = tested c.is_put
  where
    tested : (is_put : Bool) → texts_ascend (cond is_put (c.key ∷ keys) keys) ≡ true
    tested true = h
    tested false = ascend_behind c.key keys h

pub merged_ascends : (keys : List (List ℕ)) (changes : List Change) → texts_ascend keys ≡ true → changes_ascend changes ≡ true → texts_ascend (merged keys changes) ≡ true
merged_ascends keys [] h k = h
merged_ascends [] (c ∷ more) h k = put_ascends c (merged [] more) (merged_above more [] c.key k refl)
merged_ascends (key ∷ keys) (c ∷ more) h k =
    by_order
    (λ o. texts_ascend (below_compared o key (below c.key keys) ++ put_before c (merged (above_compared o key keys (above c.key keys)) more)) ≡ true)
    (key_cmp key c.key)
    (λ is. merged_above (c ∷ more) keys key (cons_above key c.key (map key_of more) is k) h)
    (λ is. put_ascends c (merged keys more) (merged_above more keys c.key k (subst (λ x. ascend_above x keys ≡ true) (exact_bytes key c.key is) h)))
    (λ is. put_ascends c (merged (key ∷ keys) more) (merged_above more (key ∷ keys) c.key k (cons_above c.key key keys (less_from_greater key c.key is) h)))

-- ---- which keys stand after the changes

unchanged : (low : List ℕ) (changes : List Change) → ascend_above low (map key_of changes) ≡ true → is_changed_in changes low ≡ false
unchanged low [] h = refl
unchanged low (c ∷ more) h =
    let first = head_above low c.key (map key_of more) h in
    rw (differs low c.key first) (unchanged low more (lower low c.key (map key_of more) first (tail_above low c.key (map key_of more) h)))

unput : (low : List ℕ) (changes : List Change) → ascend_above low (map key_of changes) ≡ true → is_put_in changes low ≡ false
unput low [] h = refl
unput low (c ∷ more) h =
    let first = head_above low c.key (map key_of more) h in
    rw (differs low c.key first) (no_put c.is_put (unput low more (lower low c.key (map key_of more) first (tail_above low c.key (map key_of more) h))))
  where
    no_put : (is_put : Bool) → is_put_in more low ≡ false → ((is_put && false) || is_put_in more low) ≡ false
    no_put true h = h
    no_put false h = h

-- a key that is the same as one
pub as_is : (P : List ℕ → Type 0) (q key : List ℕ) → P key → same_text q key ≡ true → P q
as_is P q key p same = subst P (sym ((bytes_decides q key).0 same)) p

-- the key of a change stands exactly where it is put, and the others as after the later changes
put_stands : (put same puts changes before : Bool) → (same ≡ true → puts ≡ false) → (same ≡ true → changes ≡ false) → (same ≡ true → before ≡ false)
    → cond put (same || cond puts true (cond changes false before)) (cond puts true (cond changes false before)) ≡ cond ((put && same) || puts) true (cond (same || changes) false before)
put_stands true true puts changes before f g h = refl
put_stands false true puts changes before f g h = rw (f refl, g refl, h refl) refl
put_stands true false puts changes before f g h = refl
put_stands false false puts changes before f g h = refl

-- whether it stood before says nothing of it
own_before : (same puts changes before : Bool) → cond puts true (cond (same || changes) false before) ≡ cond puts true (cond (same || changes) false (same || before))
own_before true puts changes before = refl
own_before false puts changes before = refl

-- a key that no change names stays
stays : (same puts changes before : Bool) → (same ≡ true → puts ≡ false) → (same ≡ true → changes ≡ false) → (same || cond puts true (cond changes false before)) ≡ cond puts true (cond changes false (same || before))
stays true puts changes before f g = rw (f refl, g refl) refl
stays false puts changes before f g = refl

put_has : (c : Change) (keys : List (List ℕ)) (q : List ℕ) → has_key (put_before c keys) q ≡ cond c.is_put (same_text q c.key || has_key keys q) (has_key keys q)
put_has c keys q = tested c.is_put
  where
    tested : (is_put : Bool) → has_key (cond is_put (c.key ∷ keys) keys) q ≡ cond is_put (same_text q c.key || has_key keys q) (has_key keys q)
    tested true = refl
    tested false = refl

-- one change, in front of the others, where keys above its own were there before
change_has : (c : Change) (more : List Change) (keys : List (List ℕ)) (q : List ℕ) → changes_ascend (c ∷ more) ≡ true → ascend_above c.key keys ≡ true
    → has_key (merged keys more) q ≡ stands_under more q (has_key keys q) → has_key (put_before c (merged keys more)) q ≡ stands_under (c ∷ more) q (has_key keys q)
change_has c more keys q h k later =
    put_has c (merged keys more) q ∙ ap (λ b. cond c.is_put (same_text q c.key || b) b) later
    ∙ put_stands c.is_put (same_text q c.key) (is_put_in more q) (is_changed_in more q) (has_key keys q)
    (as_is (λ x. is_put_in more x ≡ false) q c.key (unput c.key more h)) (as_is (λ x. is_changed_in more x ≡ false) q c.key (unchanged c.key more h)) (as_is (λ x. has_key keys x ≡ false) q c.key (absent c.key keys k))

change_stands : (c : Change) (more : List Change) (q : List ℕ) → changes_ascend (c ∷ more) ≡ true
    → ((keys : List (List ℕ)) → texts_ascend keys ≡ true → has_key (merged keys more) q ≡ stands_under more q (has_key keys q))
    → (keys : List (List ℕ)) → texts_ascend keys ≡ true → has_key (merged keys (c ∷ more)) q ≡ stands_under (c ∷ more) q (has_key keys q)
change_stands c more q h later [] k = change_has c more [] q h refl (later [] refl)
change_stands c more q h later (key ∷ keys) k =
    by_order
    (λ o. has_key (below_compared o key (below c.key keys) ++ put_before c (merged (above_compared o key keys (above c.key keys)) more)) q ≡ stands_under (c ∷ more) q (same_text q key || has_key keys q))
    (key_cmp key c.key)
    (λ is.
    let behind = cons_above key c.key (map key_of more) is h in
    ap (λ b. same_text q key || b) (change_stands c more q h later keys (ascend_behind key keys k))
    ∙ stays (same_text q key) (is_put_in (c ∷ more) q) (is_changed_in (c ∷ more) q) (has_key keys q)
    (as_is (λ x. is_put_in (c ∷ more) x ≡ false) q key (unput key (c ∷ more) behind)) (as_is (λ x. is_changed_in (c ∷ more) x ≡ false) q key (unchanged key (c ∷ more) behind)))
    (λ is.
    let own = exact_bytes key c.key is in
    change_has c more keys q h (subst (λ x. ascend_above x keys ≡ true) own k) (later keys (ascend_behind key keys k))
    ∙ subst (λ x. stands_under (c ∷ more) q (has_key keys q) ≡ stands_under (c ∷ more) q (same_text q x || has_key keys q)) (sym own)
    (own_before (same_text q c.key) (is_put_in (c ∷ more) q) (is_changed_in more q) (has_key keys q)))
    (λ is. change_has c more (key ∷ keys) q h (cons_above c.key key keys (less_from_greater key c.key is) k) (later (key ∷ keys) k))

pub merged_stands : (changes : List Change) (keys : List (List ℕ)) (q : List ℕ) → changes_ascend changes ≡ true → texts_ascend keys ≡ true → has_key (merged keys changes) q ≡ stands_under changes q (has_key keys q)
merged_stands [] keys q h k = refl
merged_stands (c ∷ more) keys q h k = change_stands c more q h (λ ks. merged_stands more ks q (ascend_behind c.key (map key_of more) h)) keys k
