-- What stands at a key among ascending records, and what an edit at its place does.
use Rattle.std.proofs.Common.{◌≡◌, ◌≢◌, ℕ, zero, suc, ◌+◌, ◌<◌, Bool, true, false, cond, List, [], ◌∷◌, length, map, get_or, set, if◌then◌else◌, Option, Some, None, Result, Ok, Err, IfOk, IfErr, inl, inr, refl, sym, ◌∙◌, ap, subst, arith}
use mathlib.Core.Bool.{true≢false}
use Rattle.std.proofs.lemmas.Bool.{cases_lt, and_parts, and_from}
use Rattle.std.specs.Prelude.{find, option_map}
use Rattle.std.specs.List.{insert, remove}
use Rattle.std.specs.List.Sorted.{IsSearchInRange, IsBinarySearchResult, IsNonDecreasingBy}
use Rattle.std.specs.Ordering.{is_lt, nat_cmp, ordering_reverse, ordering_index}
use Rattle.std.specs.Cmp.Lexicographic.{slice_cmp, bytes_decides, nat_list_cmp_total}
use Rattle.std.specs.declared.cmp.Ordering.{Ordering}
use Rattle.std.specs.declared.cmp.Ordering.TheVariants.{Less, Equal, Greater}
use Rattle.std.proofs.lemmas.Map.Lookups.{exact_bytes}
use Rattle.std.proofs.lemmas.List.Sorted.{searchable_from_sorted}
use Rattle.gql_values3.specs.Texts.{same_text, ascend_above, texts_ascend}
use Rattle.gql_ports.specs.declared.stored.Record.{Record}
use Rattle.gql_ports.specs.Held.{keys_ascend, value_at}
use Rattle.gql_ports.specs.Machinery.Place.{IsAt, IsGapFor}

-- the order of keys
abbrev pub key_cmp : List ℕ → List ℕ → Ordering
key_cmp a b = slice_cmp nat_cmp a b

key_of : Record → List ℕ
key_of r = r.key

-- ---- tests

less : (o : Ordering) → is_lt o ≡ true → o ≡ Less
less Less h = refl
less Equal h = absurd (true≢false (sym h))
less Greater h = absurd (true≢false (sym h))

not_true : (b : Bool) → b ≢ true → b ≡ false
not_true true h = absurd (h refl)
not_true false h = refl

greater_from_less : (a b : List ℕ) → key_cmp a b ≡ Less → key_cmp b a ≡ Greater
greater_from_less a b h = nat_list_cmp_total.antisymm b a ∙ ap ordering_reverse h

less_from_greater : (a b : List ℕ) → key_cmp a b ≡ Greater → key_cmp b a ≡ Less
less_from_greater a b h = nat_list_cmp_total.antisymm b a ∙ ap ordering_reverse h

cmp_same : (a : List ℕ) → key_cmp a a ≡ Equal
cmp_same a = same_order (key_cmp a a) (nat_list_cmp_total.antisymm a a)
  where
    same_order : (o : Ordering) → o ≡ ordering_reverse o → o ≡ Equal
    same_order Less h = cc
    same_order Equal h = refl
    same_order Greater h = cc

differs_if_less : (a b : List ℕ) → key_cmp a b ≡ Less → a ≢ b
differs_if_less a b h e =
    let f : key_cmp a b ≡ Equal = subst (λ x. key_cmp a x ≡ Equal) e (cmp_same a) in
    cc

differs_if_greater : (a b : List ℕ) → key_cmp a b ≡ Greater → a ≢ b
differs_if_greater a b h e = differs_if_less b a (less_from_greater a b h) (sym e)

-- ---- ascending records

tail_ascends : (low : List ℕ) (ks : List (List ℕ)) → ascend_above low ks ≡ true → texts_ascend ks ≡ true
tail_ascends low [] h = refl
tail_ascends low (k ∷ ks) h = (and_parts (is_lt (key_cmp low k)) (ascend_above k ks) h).1

above_lower : (a b : List ℕ) (ks : List (List ℕ)) → key_cmp a b ≡ Less → ascend_above b ks ≡ true → ascend_above a ks ≡ true
above_lower a b [] h g = refl
above_lower a b (k ∷ ks) h g =
    let below_k = less (key_cmp b k) (and_parts (is_lt (key_cmp b k)) (ascend_above k ks) g).0 in
    and_from (is_lt (key_cmp a k)) (ascend_above k ks) (ap is_lt (nat_list_cmp_total.trans a b k h below_k)) (and_parts (is_lt (key_cmp b k)) (ascend_above k ks) g).1

-- low is below each record
all_above : (low : List ℕ) (xs : List Record) → ascend_above low (map key_of xs) ≡ true → (j : ℕ) (d : Record) → j < length xs → key_cmp low (get_or xs j d).key ≡ Less
unfolding key_of
all_above low [] h j d lt = absurd (omega arith)
all_above low (x ∷ xs) h zero d lt = less (key_cmp low x.key) (and_parts (is_lt (key_cmp low x.key)) (ascend_above x.key (map key_of xs)) h).0
all_above low (x ∷ xs) h (suc j) d lt =
    let first = less (key_cmp low x.key) (and_parts (is_lt (key_cmp low x.key)) (ascend_above x.key (map key_of xs)) h).0 in
    let rest = (and_parts (is_lt (key_cmp low x.key)) (ascend_above x.key (map key_of xs)) h).1 in
    nat_list_cmp_total.trans low x.key (get_or xs j d).key first (all_above x.key xs rest j d (omega arith))

-- a record is below each later one
pub ascending : (xs : List Record) → keys_ascend xs ≡ true → (i j : ℕ) (d : Record) → i < j → j < length xs → key_cmp (get_or xs i d).key (get_or xs j d).key ≡ Less
unfolding key_of
ascending [] h i j d lt in_range = absurd (omega arith)
ascending (x ∷ xs) h i zero d lt in_range = absurd (omega arith)
ascending (x ∷ xs) h zero (suc j) d lt in_range = all_above x.key xs h j d (omega arith)
ascending (x ∷ xs) h (suc i) (suc j) d lt in_range = ascending xs (tail_ascends x.key (map key_of xs) h) i j d (omega arith) (omega arith)

-- ---- what a binary search finds

comparisons_rise : (xs : List Record) → keys_ascend xs ≡ true → (key : List ℕ) → IsNonDecreasingBy (λ (r : Record). ordering_index (key_cmp r.key key)) xs
comparisons_rise xs h key =
    searchable_from_sorted nat_list_cmp_total (λ (r : Record). r.key) xs key
    (λ k d _ lt. ap is_lt (greater_from_less (get_or xs k d).key (get_or xs (k + 1) d).key (ascending xs h k (k + 1) d (omega arith) lt)))

pub searched : (xs : List Record) → keys_ascend xs ≡ true → (key : List ℕ) (r : Result ℕ ℕ) → IsSearchInRange r (length xs) → IsBinarySearchResult (λ (r : Record). key_cmp r.key key) xs r
    → record { found : IfOk r (IsAt xs key); absent : IfErr r (IsGapFor xs key) }
searched xs h key (Ok i) in_range equal = record { found = record { in_range = in_range; has_key = λ d. exact_bytes (get_or xs i d).key key (equal d) }; absent = tt }
searched xs h key (Err i) in_range parted = record {
  found = tt;
  absent = record {
    in_range = in_range;
    less_before = λ j d lt. (parted (comparisons_rise xs h key)).0 j d (omega arith) lt;
    greater_after = λ j d le lt. (parted (comparisons_rise xs h key)).1 j d le lt;
  };
}

-- ---- look-ups

-- no record before place i has the key
abbrev pub NoKeyBefore : List Record → List ℕ → ℕ → Type 0
NoKeyBefore xs key i = (j : ℕ) (d : Record) → j < i → (get_or xs j d).key ≢ key

tail_no_key : (x : Record) (xs : List Record) (key : List ℕ) (i : ℕ) → NoKeyBefore (x ∷ xs) key (suc i) → NoKeyBefore xs key i
tail_no_key x xs key i h j d lt = h (suc j) d (omega arith)

first_no_key : (x : Record) (xs : List Record) (key : List ℕ) (i : ℕ) → NoKeyBefore (x ∷ xs) key (suc i) → x.key ≢ key
first_no_key x xs key i h = h zero x (omega arith)

-- another text
other : (a b : List ℕ) → b ≢ a → same_text a b ≡ false
other a b h = not_true (same_text a b) (λ e. h (sym ((bytes_decides a b).0 e)))

same : (a b : List ℕ) → b ≡ a → same_text a b ≡ true
same a b e = (bytes_decides a b).1 (sym e)

-- the value that one step of a look-up gives
step : Bool → Record → Option Record → Option (List ℕ)
step b x o = option_map (λ (r : Record). r.value) (cond b (Some x) o)

pub value_at_absent : (xs : List Record) (key : List ℕ) → NoKeyBefore xs key (length xs) → value_at xs key ≡ None
unfolding step
value_at_absent [] key h = refl
value_at_absent (x ∷ xs) key h =
    ap (λ b. step b x (find (λ (r : Record). same_text key r.key) xs)) (other key x.key (first_no_key x xs key (length xs) h))
    ∙ value_at_absent xs key (tail_no_key x xs key (length xs) h)

pub value_at_present : (xs : List Record) (key : List ℕ) (i : ℕ) (d : Record) → i < length xs → (get_or xs i d).key ≡ key → NoKeyBefore xs key i → value_at xs key ≡ Some (get_or xs i d).value
unfolding step
value_at_present [] key i d in_range is h = absurd (omega arith)
value_at_present (x ∷ xs) key zero d in_range is h = ap (λ b. step b x (find (λ (r : Record). same_text key r.key) xs)) (same key x.key is)
value_at_present (x ∷ xs) key (suc i) d in_range is h =
    ap (λ b. step b x (find (λ (r : Record). same_text key r.key) xs)) (other key x.key (first_no_key x xs key i h))
    ∙ value_at_present xs key i d (omega arith) is (tail_no_key x xs key i h)

-- a test of the key asked for after one of x's
swapped : (b c : Bool) (x : Record) (v : Option (List ℕ)) (o p : Option Record) → (b ≡ true → c ≡ true → ⊥)
    → option_map (λ (r : Record). r.value) o ≡ cond c v (option_map (λ (r : Record). r.value) p) → step b x o ≡ cond c v (step b x p)
unfolding step
swapped true true x v o p n h = absurd (n refl refl)
swapped true false x v o p n h = refl
swapped false true x v o p n h = h
swapped false false x v o p n h = h

one_key : (q a b : List ℕ) → b ≢ a → same_text q b ≡ true → same_text q a ≡ true → ⊥
one_key q a b n h g = n (sym ((bytes_decides q b).0 h) ∙ (bytes_decides q a).0 g)

-- a record written over one with its key
pub value_at-set : (xs : List Record) (i : ℕ) (r : Record) → i < length xs → ((d : Record) → (get_or xs i d).key ≡ r.key) → NoKeyBefore xs r.key i
    → (q : List ℕ) → value_at (set xs i r) q ≡ (if same_text q r.key then Some r.value else value_at xs q)
unfolding step
value_at-set [] i r in_range is h q = absurd (omega arith)
value_at-set (x ∷ xs) zero r in_range is h q = written (same_text q r.key) (same_text q x.key) (ap (same_text q) (sym (is r)))
  where
    rest : Option Record
    rest = find (λ (s : Record). same_text q s.key) xs

    written : (b c : Bool) → b ≡ c → step b r rest ≡ cond b (Some r.value) (step c x rest)
    written true c e = refl
    written false true e = absurd (true≢false (sym e))
    written false false e = refl
value_at-set (x ∷ xs) (suc i) r in_range is h q =
    swapped (same_text q x.key) (same_text q r.key) x (Some r.value) _ _ (one_key q r.key x.key (first_no_key x xs r.key i h))
    (value_at-set xs i r (omega arith) is (tail_no_key x xs r.key i h) q)

-- a record in front of others
front : (q : List ℕ) (r : Record) (xs : List Record) → value_at (r ∷ xs) q ≡ (if same_text q r.key then Some r.value else value_at xs q)
front q r xs = tested (same_text q r.key) (find (λ (s : Record). same_text q s.key) xs)
  where
    tested : (b : Bool) (o : Option Record) → option_map (λ (s : Record). s.value) (cond b (Some r) o) ≡ cond b (Some r.value) (option_map (λ (s : Record). s.value) o)
    tested true o = refl
    tested false o = refl

-- a record put before any other with its key
pub value_at-insert : (xs : List Record) (i : ℕ) (r : Record) → NoKeyBefore xs r.key i → (q : List ℕ) → value_at (insert xs i r) q ≡ (if same_text q r.key then Some r.value else value_at xs q)
unfolding step
value_at-insert xs zero r h q = front q r xs
value_at-insert [] (suc i) r h q = front q r []
value_at-insert (x ∷ xs) (suc i) r h q =
    swapped (same_text q x.key) (same_text q r.key) x (Some r.value) _ _ (one_key q r.key x.key (first_no_key x xs r.key i h))
    (value_at-insert xs i r (tail_no_key x xs r.key i h) q)

-- the one record of a key taken away
pub value_at-remove : (xs : List Record) (i : ℕ) (key : List ℕ) → i < length xs → ((d : Record) → (get_or xs i d).key ≡ key) → NoKeyBefore xs key i
    → ((j : ℕ) (d : Record) → i < j → j < length xs → (get_or xs j d).key ≢ key) → (q : List ℕ) → value_at (remove xs i) q ≡ (if same_text q key then None else value_at xs q)
unfolding step
value_at-remove [] i key in_range is h after q = absurd (omega arith)
value_at-remove (x ∷ xs) zero key in_range is h after q = gone (same_text q key) (same_text q x.key) (ap (same_text q) (sym (is x))) absent
  where
    rest : Option Record
    rest = find (λ (s : Record). same_text q s.key) xs

    absent : same_text q key ≡ true → value_at xs q ≡ None
    absent e = value_at_absent xs q (λ j d lt same_key. after (suc j) d (omega arith) (omega arith) (same_key ∙ (bytes_decides q key).0 e))

    gone : (b c : Bool) → b ≡ c → (b ≡ true → option_map (λ (s : Record). s.value) rest ≡ None) → option_map (λ (s : Record). s.value) rest ≡ cond b None (step c x rest)
    gone true c e n = n refl
    gone false true e n = absurd (true≢false (sym e))
    gone false false e n = refl
value_at-remove (x ∷ xs) (suc i) key in_range is h after q =
    swapped (same_text q x.key) (same_text q key) x None _ _ (one_key q key x.key (first_no_key x xs key i h))
    (value_at-remove xs i key (omega arith) is (tail_no_key x xs key i h) (λ j d lt le. after (suc j) d (omega arith) (omega arith)) q)

-- ---- edits keep the order

above-insert : (low : List ℕ) (xs : List Record) (i : ℕ) (r : Record) → ascend_above low (map key_of xs) ≡ true → key_cmp low r.key ≡ Less → IsGapFor xs r.key i → ascend_above low (map key_of (insert xs i r)) ≡ true
unfolding key_of
above-insert low [] zero r h below gap = and_from (is_lt (key_cmp low r.key)) true (ap is_lt below) refl
above-insert low [] (suc i) r h below gap = absurd (omega (arith, gap.in_range))
above-insert low (x ∷ xs) zero r h below gap =
    let rest = (and_parts (is_lt (key_cmp low x.key)) (ascend_above x.key (map key_of xs)) h).1 in
    let next = less_from_greater x.key r.key (gap.greater_after zero x (omega arith) (omega arith)) in
    and_from (is_lt (key_cmp low r.key)) (ascend_above r.key (map key_of (x ∷ xs))) (ap is_lt below) (and_from (is_lt (key_cmp r.key x.key)) (ascend_above x.key (map key_of xs)) (ap is_lt next) rest)
above-insert low (x ∷ xs) (suc i) r h below gap =
    let first = (and_parts (is_lt (key_cmp low x.key)) (ascend_above x.key (map key_of xs)) h).0 in
    let rest = (and_parts (is_lt (key_cmp low x.key)) (ascend_above x.key (map key_of xs)) h).1 in
    and_from (is_lt (key_cmp low x.key)) (ascend_above x.key (map key_of (insert xs i r))) first
    (above-insert x.key xs i r rest (gap.less_before zero x (omega arith)) (tail_gap x xs r.key i gap))
  where
    tail_gap : (x : Record) (xs : List Record) (key : List ℕ) (i : ℕ) → IsGapFor (x ∷ xs) key (suc i) → IsGapFor xs key i
    tail_gap x xs key i gap = record {
      in_range = omega (arith, gap.in_range);
      less_before = λ j d lt. gap.less_before (suc j) d (omega arith);
      greater_after = λ j d le lt. gap.greater_after (suc j) d (omega arith) (omega arith);
    }

pub ascend-insert : (xs : List Record) (i : ℕ) (r : Record) → keys_ascend xs ≡ true → IsGapFor xs r.key i → keys_ascend (insert xs i r) ≡ true
unfolding key_of
ascend-insert [] zero r h gap = refl
ascend-insert [] (suc i) r h gap = absurd (omega (arith, gap.in_range))
ascend-insert (x ∷ xs) zero r h gap =
    and_from (is_lt (key_cmp r.key x.key)) (ascend_above x.key (map key_of xs)) (ap is_lt (less_from_greater x.key r.key (gap.greater_after zero x (omega arith) (omega arith)))) h
ascend-insert (x ∷ xs) (suc i) r h gap =
    above-insert x.key xs i r h (gap.less_before zero x (omega arith)) (record {
      in_range = omega (arith, gap.in_range);
      less_before = λ j d lt. gap.less_before (suc j) d (omega arith);
      greater_after = λ j d le lt. gap.greater_after (suc j) d (omega arith) (omega arith);
    })

above-remove : (low : List ℕ) (xs : List Record) (i : ℕ) → ascend_above low (map key_of xs) ≡ true → ascend_above low (map key_of (remove xs i)) ≡ true
unfolding key_of
above-remove low [] zero h = refl
above-remove low [] (suc i) h = refl
above-remove low (x ∷ xs) zero h =
    above_lower low x.key (map key_of xs) (less (key_cmp low x.key) (and_parts (is_lt (key_cmp low x.key)) (ascend_above x.key (map key_of xs)) h).0) (and_parts (is_lt (key_cmp low x.key)) (ascend_above x.key (map key_of xs)) h).1
above-remove low (x ∷ xs) (suc i) h =
    and_from (is_lt (key_cmp low x.key)) (ascend_above x.key (map key_of (remove xs i))) (and_parts (is_lt (key_cmp low x.key)) (ascend_above x.key (map key_of xs)) h).0
    (above-remove x.key xs i (and_parts (is_lt (key_cmp low x.key)) (ascend_above x.key (map key_of xs)) h).1)

pub ascend-remove : (xs : List Record) (i : ℕ) → keys_ascend xs ≡ true → keys_ascend (remove xs i) ≡ true
unfolding key_of
ascend-remove [] zero h = refl
ascend-remove [] (suc i) h = refl
ascend-remove (x ∷ xs) zero h = tail_ascends x.key (map key_of xs) h
ascend-remove (x ∷ xs) (suc i) h = above-remove x.key xs i h

keys-set : (xs : List Record) (i : ℕ) (r : Record) → ((d : Record) → (get_or xs i d).key ≡ r.key) → map key_of (set xs i r) ≡ map key_of xs
unfolding key_of
keys-set [] i r is = refl
keys-set (x ∷ xs) zero r is = ap (λ k. k ∷ map key_of xs) (sym (is x))
keys-set (x ∷ xs) (suc i) r is = ap (λ ks. x.key ∷ ks) (keys-set xs i r is)

pub ascend-set : (xs : List Record) (i : ℕ) (r : Record) → ((d : Record) → (get_or xs i d).key ≡ r.key) → keys_ascend xs ≡ true → keys_ascend (set xs i r) ≡ true
unfolding key_of
ascend-set xs i r is h = ap texts_ascend (keys-set xs i r is) ∙ h

-- ---- by places

-- before a key's own place there is none with it
pub no_key_before_at : (xs : List Record) → keys_ascend xs ≡ true → (key : List ℕ) (i : ℕ) → IsAt xs key i → NoKeyBefore xs key i
no_key_before_at xs h key i at j d lt same_key =
    differs_if_less (get_or xs j d).key (get_or xs i d).key (ascending xs h j i d lt at.in_range) (same_key ∙ sym (at.has_key d))

-- nor is there behind it
pub no_key_after_at : (xs : List Record) → keys_ascend xs ≡ true → (key : List ℕ) (i : ℕ) → IsAt xs key i → (j : ℕ) (d : Record) → i < j → j < length xs → (get_or xs j d).key ≢ key
no_key_after_at xs h key i at j d lt in_range same_key =
    differs_if_less (get_or xs i d).key (get_or xs j d).key (ascending xs h i j d lt in_range) (at.has_key d ∙ sym same_key)

-- before its gap there is none
pub no_key_before_gap : (xs : List Record) (key : List ℕ) (i : ℕ) → IsGapFor xs key i → NoKeyBefore xs key i
no_key_before_gap xs key i gap j d lt = differs_if_less (get_or xs j d).key key (gap.less_before j d lt)

-- a key that has a gap has no value
pub value_at_gap : (xs : List Record) (key : List ℕ) (i : ℕ) → IsGapFor xs key i → value_at xs key ≡ None
value_at_gap xs key i gap = value_at_absent xs key (λ j d lt. elim (cases_lt j i) [
  | inl before ↦ no_key_before_gap xs key i gap j d before
  | inr from ↦ differs_if_greater (get_or xs j d).key key (gap.greater_after j d from lt)
])

-- taking away a key that has no value changes none
pub unchanged_if_absent : (xs : List Record) (key : List ℕ) → value_at xs key ≡ None → (q : List ℕ) → value_at xs q ≡ (if same_text q key then None else value_at xs q)
unchanged_if_absent xs key absent q = tested (same_text q key) (λ e. ap (value_at xs) ((bytes_decides q key).0 e) ∙ absent)
  where
    tested : (b : Bool) → (b ≡ true → value_at xs q ≡ None) → value_at xs q ≡ cond b None (value_at xs q)
    tested true n = n refl
    tested false n = refl
