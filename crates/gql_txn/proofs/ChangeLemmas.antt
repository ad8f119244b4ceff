-- What is put and what is dropped leads from the one list of records to the other, and no key is told twice.
use Rattle.std.proofs.Common.{◌≡◌, Bool, true, false, cond, not, ℕ, zero, suc, ◌+◌, List, [], ◌∷◌, ◌++◌, map, take, slice_get, Option, Some, None, refl, sym, ap, ◌∙◌, add-one}
use Rattle.std.specs.Prelude.{filter, is_some, ◌||◌, if◌then◌else◌}
use Rattle.std.specs.List.{AllByRecursion, list_any}
use Rattle.std.proofs.lemmas.Bool.{and_from, and_parts, not-true}
use Rattle.gql_values3.specs.Texts.{same_text, texts_differ}
use Rattle.gql_values3.proofs.WordLemmas.{same_is}
use Rattle.gql_ports.specs.Held.{keys_ascend, value_at, value_after}
use Rattle.gql_ports.specs.declared.stored.Record.{Record}
use Rattle.gql_rowcode.proofs.NameLemmas.{text_same}
use Rattle.gql_rowcode.proofs.OrderingLists.{all_weaker}
use Rattle.gql_txn.specs.Machinery.Changes.{is_value, has_record, has_key, puts_of, drops_of}
use Rattle.std.proofs.lemmas.List.{append-nil}
use Rattle.std.proofs.lemmas.List.Elements.{filter-append}
use Rattle.gql_txn.proofs.LoadLemmas.{take-next}
use Rattle.gql_txn.proofs.ValueLemmas.{record_with, rest_ascends, value_first, value_behind, first_once}

-- ---- what stands at a key among the records that pass a test

abbrev if_passes : Bool → List ℕ → Option (List ℕ)
if_passes b value = cond b (Some value) None

-- the value of a key, where its record passes
abbrev passed : (Record → Bool) → List ℕ → Option (List ℕ) → Option (List ℕ)
passed test key None = None
passed test key (Some value) = if_passes (test (record_with key value)) value

module _ (test : Record → Bool) where
  -- the record of the key passes or not
  here_case : (b : Bool) (x : Record) (xs more : List Record) (key : List ℕ) → same_text key x.key ≡ true → value_at more key ≡ None → value_at (cond b (x ∷ more) more) key ≡ if_passes b x.value
  here_case true x xs more key e none = value_first x more key e
  here_case false x xs more key e none = none

  -- another record passes or not
  behind_case : (b : Bool) (x : Record) (more : List Record) (key : List ℕ) → same_text key x.key ≡ false → value_at (cond b (x ∷ more) more) key ≡ value_at more key
  behind_case true x more key e = value_behind x more key e
  behind_case false x more key e = refl

  filter_case : (b : Bool) (x : Record) (xs : List Record) (key : List ℕ) → same_text key x.key ≡ b → keys_ascend (x ∷ xs) ≡ true
      → value_at (filter test xs) key ≡ passed test key (value_at xs key) → value_at (filter test (x ∷ xs)) key ≡ passed test key (value_at (x ∷ xs) key)
  filter_case true x xs key e up more =
      let none : value_at (filter test xs) key ≡ None = more ∙ ap (passed test key) (first_once x xs key up e) in
      let keys : x.key ≡ key = sym (same_is key x.key e) in
      let passes : test x ≡ test (record_with key x.value) = ap (λ (k : List ℕ). test (record_with k x.value)) keys in
      here_case (test x) x xs (filter test xs) key e none ∙ ap (λ (b : Bool). if_passes b x.value) passes ∙ sym (ap (passed test key) (value_first x xs key e))
  filter_case false x xs key e up more =
      behind_case (test x) x (filter test xs) key e ∙ more ∙ sym (ap (passed test key) (value_behind x xs key e))

  pub value_passed : (xs : List Record) (key : List ℕ) → keys_ascend xs ≡ true → value_at (filter test xs) key ≡ passed test key (value_at xs key)
  value_passed [] key up = refl
  value_passed (x ∷ xs) key up = filter_case (same_text key x.key) x xs key refl up (value_passed xs key (rest_ascends x xs up))

-- ---- keys of a list

abbrev pub keys : List Record → List (List ℕ)
keys xs = map (λ (r : Record). r.key) xs

any_case : (b : Bool) (key : List ℕ) (x : Record) (xs : List Record) → same_text key x.key ≡ b → list_any (same_text key) (keys xs) ≡ is_some (value_at xs key) → (b || list_any (same_text key) (keys xs)) ≡ is_some (value_at (x ∷ xs) key)
any_case true key x xs e more = sym (ap is_some (value_first x xs key e))
any_case false key x xs e more = more ∙ sym (ap is_some (value_behind x xs key e))

-- a key is among those of a list where it has a value
any_key : (key : List ℕ) (xs : List Record) → list_any (same_text key) (keys xs) ≡ is_some (value_at xs key)
any_key key [] = refl
any_key key (x ∷ xs) = any_case (same_text key x.key) key x xs refl (any_key key xs)

any_passed : (test : Record → Bool) (key : List ℕ) (xs : List Record) → keys_ascend xs ≡ true → list_any (same_text key) (keys (filter test xs)) ≡ is_some (passed test key (value_at xs key))
any_passed test key xs up = any_key key (filter test xs) ∙ ap is_some (value_passed test xs key up)

-- ---- where they lead

abbrev settled_by : Option (List ℕ) → Bool → Option (List ℕ) → Option (List ℕ)
settled_by put dropped before = if is_some put then put else if dropped then None else before

after_is : (puts : List Record) (drops : List (List ℕ)) (key : List ℕ) (put before : Option (List ℕ)) (dropped : Bool) → value_at puts key ≡ put → list_any (same_text key) drops ≡ dropped
    → value_after puts drops key before ≡ settled_by put dropped before
after_is puts drops key put before dropped e f = λ i. settled_by (e i) (f i) before

-- what is put at a key, by what stood there and what shall stand there
abbrev put_at : Option (List ℕ) → Option (List ℕ) → Option (List ℕ)
put_at before None = None
put_at before (Some value) = if_passes (not (is_value value before)) value

-- and whether it is dropped
abbrev dropped_at : Option (List ℕ) → Option (List ℕ) → Option (List ℕ)
dropped_at None after = None
dropped_at (Some value) after = if_passes (not (is_some after)) value

put_is : (before after : List Record) (key : List ℕ) (b : Option (List ℕ)) → keys_ascend after ≡ true → value_at after key ≡ b → value_at (puts_of before after) key ≡ put_at (value_at before key) b
put_is before after key None up e = value_passed (λ (r : Record). not (has_record before r)) after key up ∙ ap (passed (λ (r : Record). not (has_record before r)) key) e
put_is before after key (Some value) up e = value_passed (λ (r : Record). not (has_record before r)) after key up ∙ ap (passed (λ (r : Record). not (has_record before r)) key) e

dropped_is : (before after : List Record) (key : List ℕ) (a : Option (List ℕ)) → keys_ascend before ≡ true → value_at before key ≡ a → list_any (same_text key) (drops_of before after) ≡ is_some (dropped_at a (value_at after key))
dropped_is before after key None up e = any_passed (λ (r : Record). not (has_key after r)) key before up ∙ ap (λ (o : Option (List ℕ)). is_some (passed (λ (r : Record). not (has_key after r)) key o)) e
dropped_is before after key (Some value) up e = any_passed (λ (r : Record). not (has_key after r)) key before up ∙ ap (λ (o : Option (List ℕ)). is_some (passed (λ (r : Record). not (has_key after r)) key o)) e

value_settled : (value other : List ℕ) (b : Bool) → same_text value other ≡ b → settled_by (if_passes (not b) value) false (Some other) ≡ Some value
value_settled value other true e = ap (λ (v : List ℕ). Some v) (sym (same_is value other e))
value_settled value other false e = refl

settled_is : (a b : Option (List ℕ)) → settled_by (put_at a b) (is_some (dropped_at a b)) a ≡ b
settled_is None None = refl
settled_is None (Some value) = refl
settled_is (Some other) None = refl
settled_is (Some other) (Some value) = value_settled value other (same_text value other) refl

-- at each key they lead from what stood there to what shall stand there
pub changes_lead : (before after : List Record) → keys_ascend before ≡ true → keys_ascend after ≡ true → (key : List ℕ) → value_after (puts_of before after) (drops_of before after) key (value_at before key) ≡ value_at after key
changes_lead before after up up' key =
    after_is (puts_of before after) (drops_of before after) key (put_at (value_at before key) (value_at after key)) (value_at before key) (is_some (dropped_at (value_at before key) (value_at after key)))
    (put_is before after key (value_at after key) up' refl) (dropped_is before after key (value_at before key) up refl)
    ∙ settled_is (value_at before key) (value_at after key)

-- ---- no key is told twice

-- a key that was first and has no value behind it
differ_case : (test : Record → Bool) (b : Bool) (x : Record) (xs : List Record) → keys_ascend (x ∷ xs) ≡ true → texts_differ (keys (filter test xs)) ≡ true → texts_differ (keys (cond b (x ∷ filter test xs) (filter test xs))) ≡ true
differ_case test true x xs up more =
    let none : list_any (same_text x.key) (keys (filter test xs)) ≡ false = any_passed test x.key xs (rest_ascends x xs up) ∙ ap (λ (o : Option (List ℕ)). is_some (passed test x.key o)) (first_once x xs x.key up (text_same x.key)) in
    and_from (not (list_any (same_text x.key) (keys (filter test xs)))) (texts_differ (keys (filter test xs))) (ap not none) more
differ_case test false x xs up more = more

-- those that pass have each a key of its own
passed_differ : (test : Record → Bool) (xs : List Record) → keys_ascend xs ≡ true → texts_differ (keys (filter test xs)) ≡ true
passed_differ test [] up = refl
passed_differ test (x ∷ xs) up = differ_case test (test x) x xs up (passed_differ test xs (rest_ascends x xs up))

-- a key of the list has a value in it
abbrev HasValue : List Record → Record → Type 0
HasValue xs r = is_some (value_at xs r.key) ≡ true

value_too : (b : Bool) (x : Record) (xs : List Record) (r : Record) → same_text r.key x.key ≡ b → HasValue xs r → HasValue (x ∷ xs) r
value_too true x xs r e there = ap is_some (value_first x xs r.key e)
value_too false x xs r e there = ap is_some (value_behind x xs r.key e) ∙ there

all_have_value : (xs : List Record) → AllByRecursion (HasValue xs) xs
all_have_value [] = tt
all_have_value (x ∷ xs) =
    (ap is_some (value_first x xs x.key (text_same x.key)), all_weaker (HasValue xs) (HasValue (x ∷ xs)) (λ r there. value_too (same_text r.key x.key) x xs r refl there) xs (all_have_value xs))

all_of_filter : (P : Record → Type 0) (test : Record → Bool) (xs : List Record) → AllByRecursion P xs → AllByRecursion P (filter test xs)
all_of_filter P test [] all = tt
all_of_filter P test (x ∷ xs) all = by_case (test x) (all_of_filter P test xs all.1)
  where
    by_case : (b : Bool) → AllByRecursion P (filter test xs) → AllByRecursion P (cond b (x ∷ filter test xs) (filter test xs))
    by_case true more = (all.0, more)
    by_case false more = more

-- what has a value in the end is not dropped
dropped_none : (a b : Option (List ℕ)) → is_some b ≡ true → is_some (dropped_at a b) ≡ false
dropped_none None b h = refl
dropped_none (Some value) None h = absurd cc
dropped_none (Some value) (Some other) h = refl

not_dropped : (before after : List Record) (r : Record) → keys_ascend before ≡ true → HasValue after r → list_any (same_text r.key) (drops_of before after) ≡ false
not_dropped before after r up there = dropped_is before after r.key (value_at before r.key) up refl ∙ dropped_none (value_at before r.key) (value_at after r.key) there

any_append : (a : List ℕ) (xs ys : List (List ℕ)) → list_any (same_text a) xs ≡ false → list_any (same_text a) ys ≡ false → list_any (same_text a) (xs ++ ys) ≡ false
any_append a [] ys p q = q
any_append a (x ∷ xs) ys p q = both_fail (same_text a x) (list_any (same_text a) xs) (list_any (same_text a) (xs ++ ys)) p (λ h. any_append a xs ys h q)
  where
    both_fail : (b c d : Bool) → (b || c) ≡ false → (c ≡ false → d ≡ false) → (b || d) ≡ false
    both_fail true c d p more = absurd cc
    both_fail false c d p more = more p

differ_append : (rs : List Record) (ys : List (List ℕ)) → texts_differ (keys rs) ≡ true → texts_differ ys ≡ true → AllByRecursion (λ (r : Record). list_any (same_text r.key) ys ≡ false) rs → texts_differ (keys rs ++ ys) ≡ true
differ_append [] ys p q apart = q
differ_append (r ∷ rs) ys p q apart =
    let parts = and_parts (not (list_any (same_text r.key) (keys rs))) (texts_differ (keys rs)) p in
    let none : list_any (same_text r.key) (keys rs) ≡ false = not-true (list_any (same_text r.key) (keys rs)) parts.0 in
    and_from (not (list_any (same_text r.key) (keys rs ++ ys))) (texts_differ (keys rs ++ ys)) (ap not (any_append r.key (keys rs) ys none apart.0)) (differ_append rs ys parts.1 q apart.1)

pub changes_differ : (before after : List Record) → keys_ascend before ≡ true → keys_ascend after ≡ true → texts_differ (keys (puts_of before after) ++ drops_of before after) ≡ true
changes_differ before after up up' =
    differ_append (puts_of before after) (drops_of before after)
    (passed_differ (λ (r : Record). not (has_record before r)) after up') (passed_differ (λ (r : Record). not (has_key after r)) before up)
    (all_weaker (HasValue after) (λ (r : Record). list_any (same_text r.key) (drops_of before after) ≡ false) (λ r there. not_dropped before after r up there) (puts_of before after)
    (all_of_filter (HasValue after) (λ (r : Record). not (has_record before r)) after (all_have_value after)))

-- ---- where there was none before

-- all are new
pub all_put : (after : List Record) → puts_of [] after ≡ after
all_put [] = refl
all_put (x ∷ xs) = ap (λ (rs : List Record). x ∷ rs) (all_put xs)

pub all_differ : (after : List Record) → keys_ascend after ≡ true → texts_differ (keys after ++ []) ≡ true
all_differ after up = ap (λ (rs : List Record). texts_differ (keys rs ++ [])) (sym (all_put after)) ∙ changes_differ [] after refl up

-- ---- one record more

pub passes_more : (test : Record → Bool) (xs : List Record) (i : ℕ) (x : Record) → slice_get xs i ≡ Some x → test x ≡ true → filter test (take (i + 1) xs) ≡ filter test (take i xs) ++ x ∷ []
passes_more test xs i x here passes =
    ap (filter test) (take-next xs i x here) ∙ filter-append test (take i xs) (x ∷ []) ∙ ap (λ (b : Bool). filter test (take i xs) ++ cond b (x ∷ []) []) passes

pub fails_more : (test : Record → Bool) (xs : List Record) (i : ℕ) (x : Record) → slice_get xs i ≡ Some x → test x ≡ false → filter test (take (i + 1) xs) ≡ filter test (take i xs)
fails_more test xs i x here fails =
    ap (filter test) (take-next xs i x here) ∙ filter-append test (take i xs) (x ∷ []) ∙ ap (λ (b : Bool). filter test (take i xs) ++ cond b (x ∷ []) []) fails ∙ append-nil (filter test (take i xs))

pub ends_more : (xs : List Record) (i : ℕ) → slice_get xs i ≡ None → take (i + 1) xs ≡ take i xs
ends_more xs i none = rw add-one (ends_at xs i none)
  where
    ends_at : (xs : List Record) (i : ℕ) → slice_get xs i ≡ None → take (suc i) xs ≡ take i xs
    ends_at [] zero h = refl
    ends_at [] (suc i) h = refl
    ends_at (x ∷ xs) zero h = absurd cc
    ends_at (x ∷ xs) (suc i) h = ap (λ (rs : List Record). x ∷ rs) (ends_at xs i h)

-- those that were made so
pub differ_by : (before after puts : List Record) (drops : List (List ℕ)) → keys_ascend before ≡ true → keys_ascend after ≡ true → puts ≡ puts_of before after → drops ≡ drops_of before after → texts_differ (keys puts ++ drops) ≡ true
differ_by before after puts drops up up' are are' = (λ i. texts_differ (keys (are i) ++ are' i)) ∙ changes_differ before after up up'
