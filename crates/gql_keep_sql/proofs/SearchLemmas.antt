-- Whether a key is changed, by a search by halves among the changes, whose keys ascend.
use Rattle.std.proofs.Common.{◌≡◌, ℕ, zero, suc, ◌+◌, ◌<◌, true, false, ◌||◌, List, [], ◌∷◌, length, map, get_or, Result, Ok, Err, refl, sym, ◌∙◌, ap, arith, is_ok, ⊎_elim}
use Rattle.std.proofs.Math.Bool.{or-true}
use Rattle.std.proofs.lemmas.Bool.{cases_lt}
use Rattle.std.specs.List.Sorted.{IsSearchInRange, IsBinarySearchResult, IsNonDecreasingBy}
use Rattle.std.specs.Ordering.{is_lt, is_eq, ordering_reverse, ordering_index}
use Rattle.std.specs.Cmp.Lexicographic.{bytes_decides, nat_list_cmp_total, texts_ties}
use Rattle.std.specs.declared.cmp.Ordering.TheVariants.{Less, Greater}
use Rattle.std.proofs.lemmas.Map.Lookups.{exact_bytes}
use Rattle.std.proofs.lemmas.List.Sorted.{searchable_from_sorted}
use Rattle.gql_values3.specs.Texts.{same_text, ascend_above}
use Rattle.gql_keep_sql.specs.declared.changes.Change.{Change}
use Rattle.gql_keep_sql.specs.Machinery.Merge.{changes_ascend, is_changed_in, key_cmp}
use Rattle.gql_keep_sql.proofs.MergeLemmas.{key_of, head_above, tail_above, ascend_behind, less_from_greater, differs}

all_above : (low : List ℕ) (cs : List Change) → ascend_above low (map key_of cs) ≡ true → (j : ℕ) (d : Change) → j < length cs → key_cmp low (get_or cs j d).key ≡ Less
all_above low [] h j d lt = absurd (omega arith)
all_above low (c ∷ cs) h zero d lt = head_above low c.key (map key_of cs) h
all_above low (c ∷ cs) h (suc j) d lt =
    nat_list_cmp_total.trans low c.key (get_or cs j d).key (head_above low c.key (map key_of cs) h) (all_above c.key cs (tail_above low c.key (map key_of cs) h) j d (omega arith))

ascending : (cs : List Change) → changes_ascend cs ≡ true → (i j : ℕ) (d : Change) → i < j → j < length cs → key_cmp (get_or cs i d).key (get_or cs j d).key ≡ Less
ascending [] h i j d lt in_range = absurd (omega arith)
ascending (c ∷ cs) h i zero d lt in_range = absurd (omega arith)
ascending (c ∷ cs) h zero (suc j) d lt in_range = all_above c.key cs h j d (omega arith)
ascending (c ∷ cs) h (suc i) (suc j) d lt in_range = ascending cs (ascend_behind c.key (map key_of cs) h) i j d (omega arith) (omega arith)

greater_from_less : (a b : List ℕ) → key_cmp a b ≡ Less → key_cmp b a ≡ Greater
greater_from_less a b h = nat_list_cmp_total.antisymm b a ∙ ap ordering_reverse h

comparisons_rise : (cs : List Change) → changes_ascend cs ≡ true → (key : List ℕ) → IsNonDecreasingBy (λ (c : Change). ordering_index (key_cmp c.key key)) cs
comparisons_rise cs h key =
    searchable_from_sorted nat_list_cmp_total (λ (c : Change). c.key) cs key
    (λ k d _ lt. ap is_lt (greater_from_less (get_or cs k d).key (get_or cs (k + 1) d).key (ascending cs h k (k + 1) d (omega arith) lt)))

unlike_greater : (a key : List ℕ) → key_cmp a key ≡ Greater → same_text key a ≡ false
unlike_greater a key h = differs key a (less_from_greater a key h)

unlike_less : (a key : List ℕ) → key_cmp a key ≡ Less → same_text key a ≡ false
unlike_less a key h = texts_ties key a ∙ ap is_eq (greater_from_less a key h)

-- a change at some place has the key
present : (cs : List Change) (key : List ℕ) (i : ℕ) (d : Change) → i < length cs → (get_or cs i d).key ≡ key → is_changed_in cs key ≡ true
present [] key i d lt is = absurd (omega arith)
present (c ∷ cs) key zero d lt is = rw ((bytes_decides key c.key).1 (sym is)) refl
present (c ∷ cs) key (suc i) d lt is = ap (λ b. same_text key c.key || b) (present cs key i d (omega arith) is) ∙ or-true (same_text key c.key)

-- none has it
absent : (cs : List Change) (key : List ℕ) → ((j : ℕ) (d : Change) → j < length cs → same_text key (get_or cs j d).key ≡ false) → is_changed_in cs key ≡ false
absent [] key h = refl
absent (c ∷ cs) key h = rw (h 0 c (omega arith)) (absent cs key (λ j d lt. h (suc j) d (omega arith)))

pub searched : (cs : List Change) → changes_ascend cs ≡ true → (key : List ℕ) (r : Result ℕ ℕ) → IsSearchInRange r (length cs) → IsBinarySearchResult (λ (c : Change). key_cmp c.key key) cs r → is_ok r ≡ is_changed_in cs key
searched [] h key (Ok i) in_range equal = absurd (omega arith)
searched (c ∷ cs) h key (Ok i) in_range equal = sym (present (c ∷ cs) key i c in_range (exact_bytes (get_or (c ∷ cs) i c).key key (equal c)))
searched cs h key (Err i) in_range parted =
    let sides = parted (comparisons_rise cs h key) in
    sym (absent cs key (λ j d lt. ⊎_elim (λ before. unlike_less (get_or cs j d).key key (sides.0 j d (omega arith) before)) (λ behind. unlike_greater (get_or cs j d).key key (sides.1 j d behind lt)) (cases_lt j i)))
