-- What stands at a key among records in order: no other record has the key, so values decide the records.
use Rattle.std.proofs.Common.{◌≡◌, ◌≢◌, ℕ, zero, suc, ◌<◌, Bool, true, false, cond, List, [], ◌∷◌, length, map, get_or, slice_get, Option, Some, None, refl, sym, ap, ◌∙◌, arith}
use Rattle.std.proofs.lemmas.Bool.{false_from_ne_true}
use Rattle.std.specs.Prelude.{Contains, find, option_map}
use Rattle.std.specs.List.{AllByRecursion}
use Rattle.std.specs.declared.cmp.Ordering.{Ordering}
use Rattle.std.specs.declared.cmp.Ordering.TheVariants.{Less, Equal, Greater}
use Rattle.std.proofs.lemmas.Cmp.{nat_list_cmp_total}
use Rattle.std.proofs.lemmas.Option.{slice_get_within, get_or_from_slice_get}
use Rattle.std.proofs.lemmas.Map.Lookups.{exact_bytes}
use Rattle.gql_values3.specs.Texts.{same_text}
use Rattle.gql_values3.proofs.WordLemmas.{same_is}
use Rattle.gql_ports.specs.Held.{keys_ascend, value_at}
use Rattle.gql_ports.specs.declared.stored.Record.{Record}
use Rattle.gql_graph.proofs.AscendingTexts.{turned, above_ascends}
use Rattle.gql_rowcode.specs.Machinery.Writing.{text_cmp}
use Rattle.gql_rowcode.proofs.NameLemmas.{text_same}
use Rattle.gql_rowcode.proofs.OrderingLists.{all_weaker, all_of_map}
use Rattle.gql_rowcode.proofs.OrderingKeys.{all_above, less_differs}

abbrev pub record_with : List ℕ → List ℕ → Record
record_with key value = record { key = key; value = value }

-- ---- tests of keys

pub other_key : (a b : List ℕ) → a ≢ b → same_text a b ≡ false
other_key a b differ = false_from_ne_true (same_text a b) (λ h. differ (same_is a b h))

-- ---- records in order

-- the first key is below the others
pub first_below : (x : Record) (xs : List Record) → keys_ascend (x ∷ xs) ≡ true → AllByRecursion (λ (r : Record). text_cmp x.key r.key ≡ Less) xs
first_below x xs up = all_of_map (λ (k : List ℕ). text_cmp x.key k ≡ Less) (λ (r : Record). r.key) xs (all_above x.key (map (λ (r : Record). r.key) xs) up)

pub first_differs : (x : Record) (xs : List Record) → keys_ascend (x ∷ xs) ≡ true → AllByRecursion (λ (r : Record). x.key ≢ r.key) xs
first_differs x xs up = all_weaker (λ (r : Record). text_cmp x.key r.key ≡ Less) (λ (r : Record). x.key ≢ r.key) (λ r. less_differs x.key r.key) xs (first_below x xs up)

pub rest_ascends : (x : Record) (xs : List Record) → keys_ascend (x ∷ xs) ≡ true → keys_ascend xs ≡ true
rest_ascends x xs up = above_ascends x.key (map (λ (r : Record). r.key) xs) up

-- ---- one step of a look-up

pub value_first : (x : Record) (xs : List Record) (key : List ℕ) → same_text key x.key ≡ true → value_at (x ∷ xs) key ≡ Some x.value
value_first x xs key h = ap (λ (b : Bool). option_map (λ (r : Record). r.value) (cond b (Some x) (find (λ (r : Record). same_text key r.key) xs))) h

pub value_behind : (x : Record) (xs : List Record) (key : List ℕ) → same_text key x.key ≡ false → value_at (x ∷ xs) key ≡ value_at xs key
value_behind x xs key h = ap (λ (b : Bool). option_map (λ (r : Record). r.value) (cond b (Some x) (find (λ (r : Record). same_text key r.key) xs))) h

pub value_absent : (xs : List Record) (key : List ℕ) → AllByRecursion (λ (r : Record). key ≢ r.key) xs → value_at xs key ≡ None
value_absent [] key all = refl
value_absent (x ∷ xs) key all = value_behind x xs key (other_key key x.key all.0) ∙ value_absent xs key all.1

-- the first key has no value behind it
pub first_once : (x : Record) (xs : List Record) (key : List ℕ) → keys_ascend (x ∷ xs) ≡ true → same_text key x.key ≡ true → value_at xs key ≡ None
first_once x xs key up h =
    let same : key ≡ x.key = same_is key x.key h in
    ap (value_at xs) same ∙ value_absent xs x.key (first_differs x xs up)

-- ---- values decide the records

-- a key below all has no value
below_absent : (x y : Record) (ys : List Record) → keys_ascend (y ∷ ys) ≡ true → text_cmp x.key y.key ≡ Less → value_at (y ∷ ys) x.key ≡ None
below_absent x y ys up less =
    value_absent (y ∷ ys) x.key (
      less_differs x.key y.key less,
      all_weaker (λ (r : Record). text_cmp y.key r.key ≡ Less) (λ (r : Record). x.key ≢ r.key) (λ r above. less_differs x.key r.key (nat_list_cmp_total.trans x.key y.key r.key less above)) ys (first_below y ys up),
    )

abbrev SameValues : List Record → List Record → Type 0
SameValues xs ys = (key : List ℕ) → value_at xs key ≡ value_at ys key

-- a key that has a value in one list and none in the other
lacks : (xs ys : List Record) (key value : List ℕ) → SameValues xs ys → value_at xs key ≡ Some value → value_at ys key ≡ None → ⊥
lacks xs ys key value same here none =
    let never : Some value ≡ None = sym here ∙ same key ∙ none in
    cc

-- the rest of two lists with one first key
rest_same : (x y : Record) (xs ys : List Record) → keys_ascend (x ∷ xs) ≡ true → keys_ascend (y ∷ ys) ≡ true → x.key ≡ y.key → SameValues (x ∷ xs) (y ∷ ys) → SameValues xs ys
rest_same x y xs ys up up' keys same key = by_case (same_text key x.key) refl
  where
    by_case : (b : Bool) → same_text key x.key ≡ b → value_at xs key ≡ value_at ys key
    by_case true e =
        let e' : same_text key y.key ≡ true = ap (same_text key) (sym keys) ∙ e in
        first_once x xs key up e ∙ sym (first_once y ys key up' e')
    by_case false e =
        let e' : same_text key y.key ≡ false = ap (same_text key) (sym keys) ∙ e in
        sym (value_behind x xs key e) ∙ same key ∙ value_behind y ys key e'

heads_same : (x y : Record) (xs ys : List Record) → x.key ≡ y.key → SameValues (x ∷ xs) (y ∷ ys) → x.value ≡ y.value
heads_same x y xs ys keys same =
    let one : Some x.value ≡ Some y.value =
    sym (value_first x xs x.key (text_same x.key)) ∙ same x.key ∙ value_first y ys x.key (ap (same_text x.key) (sym keys) ∙ text_same x.key) in
    cc

records_case : (x y : Record) (xs ys : List Record) (o : Ordering) → text_cmp x.key y.key ≡ o → keys_ascend (x ∷ xs) ≡ true → keys_ascend (y ∷ ys) ≡ true → SameValues (x ∷ xs) (y ∷ ys)
    → (SameValues xs ys → xs ≡ ys) → x ∷ xs ≡ y ∷ ys
records_case x y xs ys Less e up up' same more =
    absurd (lacks (x ∷ xs) (y ∷ ys) x.key x.value same (value_first x xs x.key (text_same x.key)) (below_absent x y ys up' e))
records_case x y xs ys Greater e up up' same more =
    let less : text_cmp y.key x.key ≡ Less = turned x.key y.key e in
    absurd (lacks (y ∷ ys) (x ∷ xs) y.key y.value (λ key. sym (same key)) (value_first y ys y.key (text_same y.key)) (below_absent y x xs up less))
records_case x y xs ys Equal e up up' same more =
    let keys : x.key ≡ y.key = exact_bytes x.key y.key e in
    let values : x.value ≡ y.value = heads_same x y xs ys keys same in
    let heads : x ≡ y = λ i. record { key = keys i; value = values i } in
    let rests : xs ≡ ys = more (rest_same x y xs ys up up' keys same) in
    λ i. heads i ∷ rests i

-- records in order that have the same value at each key are the same records
pub same_records : (xs ys : List Record) → keys_ascend xs ≡ true → keys_ascend ys ≡ true → ((key : List ℕ) → value_at xs key ≡ value_at ys key) → xs ≡ ys
same_records [] [] up up' same = refl
same_records [] (y ∷ ys) up up' same = absurd (lacks (y ∷ ys) [] y.key y.value (λ key. sym (same key)) (value_first y ys y.key (text_same y.key)) refl)
same_records (x ∷ xs) [] up up' same = absurd (lacks (x ∷ xs) [] x.key x.value same (value_first x xs x.key (text_same x.key)) refl)
same_records (x ∷ xs) (y ∷ ys) up up' same =
    records_case x y xs ys (text_cmp x.key y.key) refl up up' same (same_records xs ys (rest_ascends x xs up) (rest_ascends y ys up'))

-- ---- values and what a list contains

contains_behind : (x y : Record) (xs : List Record) → Contains xs y → Contains (x ∷ xs) y
contains_behind x y xs c = (suc c.0, omega (arith, c.1), c.2)

-- what stands at a key is in the list
pub value_contained : (xs : List Record) (key value : List ℕ) → value_at xs key ≡ Some value → Contains xs (record_with key value)
value_contained [] key value h = absurd cc
value_contained (x ∷ xs) key value h = by_case (same_text key x.key) refl (value_contained xs key value)
  where
    by_case : (b : Bool) → same_text key x.key ≡ b → (value_at xs key ≡ Some value → Contains xs (record_with key value)) → Contains (x ∷ xs) (record_with key value)
    by_case true e more =
        let keys : x.key ≡ key = sym (same_is key x.key e) in
        let one : Some x.value ≡ Some value = sym (value_first x xs key e) ∙ h in
        let values : x.value ≡ value = cc in
        (0, omega arith, λ i. record { key = keys i; value = values i })
    by_case false e more = contains_behind x (record_with key value) xs (more (sym (value_behind x xs key e) ∙ h))

-- what is in a list in order stands at its key
value_there : (xs : List Record) (r : Record) (k : ℕ) → keys_ascend xs ≡ true → k < length xs → get_or xs k r ≡ r → value_at xs r.key ≡ Some r.value
value_there [] r k up lt h = absurd (omega arith)
value_there (x ∷ xs) r zero up lt h = value_first x xs r.key (ap (λ (s : Record). same_text r.key s.key) h ∙ text_same r.key) ∙ ap (λ (s : Record). Some s.value) h
value_there (x ∷ xs) r (suc k) up lt h =
    let there : value_at xs r.key ≡ Some r.value = value_there xs r k (rest_ascends x xs up) (omega arith) h in
    value_behind x xs r.key (false_from_ne_true (same_text r.key x.key) (λ e. let never : Some r.value ≡ None = sym there ∙ first_once x xs r.key up e in cc)) ∙ there

pub contained_value : (xs : List Record) (r : Record) → keys_ascend xs ≡ true → Contains xs r → value_at xs r.key ≡ Some r.value
contained_value xs r up c = value_there xs r c.0 up c.1 c.2

-- so does what is read at a place
pub value_read : (xs : List Record) (k : ℕ) (r : Record) → keys_ascend xs ≡ true → slice_get xs k ≡ Some r → value_at xs r.key ≡ Some r.value
value_read xs k r up h = value_there xs r k up (slice_get_within xs k r h) (get_or_from_slice_get xs k r r h)

value_case : (xs ys : List Record) (key : List ℕ) (o p : Option (List ℕ)) → value_at xs key ≡ o → value_at ys key ≡ p
    → ((value : List ℕ) → o ≡ Some value → p ≡ Some value) → ((value : List ℕ) → p ≡ Some value → o ≡ Some value) → o ≡ p
value_case xs ys key None None e f there back = refl
value_case xs ys key None (Some value) e f there back = back value refl
value_case xs ys key (Some value) p e f there back = sym (there value refl)

-- lists in order with the same records are one
pub one_list : (xs ys : List Record) → keys_ascend xs ≡ true → keys_ascend ys ≡ true → ((r : Record) → Contains xs r → Contains ys r) → ((r : Record) → Contains ys r → Contains xs r) → xs ≡ ys
one_list xs ys up up' there back =
    same_records xs ys up up' (λ key. value_case xs ys key (value_at xs key) (value_at ys key) refl refl
    (λ value h. contained_value ys (record_with key value) up' (there (record_with key value) (value_contained xs key value h)))
    (λ value h. contained_value xs (record_with key value) up (back (record_with key value) (value_contained ys key value h))))
