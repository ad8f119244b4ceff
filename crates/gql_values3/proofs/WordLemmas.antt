-- The slot of a text tells the one place at which a reserved word can be that text.
use Rattle.std.proofs.Common.{◌≡◌, ◌≢◌, ℕ, zero, suc, ◌+◌, ◌-◌, ◌<◌, ◌&&◌, ◌==◌, nat_lt, nat_eq, Bool, true, false, List, [], ◌∷◌, map, length, get_or, slice_index, Bor, Some, None, refl, ap, sym, ◌∙◌, arith}
use Rattle.std.specs.List.{list_all, position, position_or_len}
use Rattle.std.specs.Char.{to_ascii_uppercase}
use Rattle.std.specs.declared.cmp.Ordering.{Ordering}
use Rattle.std.specs.declared.cmp.Ordering.TheVariants.{Less, Equal, Greater}
use Rattle.std.specs.Ordering.{nat_cmp, is_eq, ordering_reverse}
use Rattle.std.specs.Cmp.Lexicographic.{slice_cmp, lists_ties}
use Rattle.std.proofs.lemmas.Bool.{and_parts}
use Rattle.std.proofs.lemmas.Bool.Decides.{nat_tests}
use Rattle.std.proofs.lemmas.Cmp.{nat_list_cmp_total}
use Rattle.std.proofs.lemmas.List.{length-map, get_or-map}
use Rattle.std.proofs.lemmas.Map.Lookups.{exact_bytes}
use Rattle.std.proofs.lemmas.List.Sums.{position_or_len_is}
use Rattle.gql_values3.specs.Names.{ascii_upper}
use Rattle.gql_values3.specs.Texts.{same_text}
use Rattle.gql_values3.specs.Machinery.WordSlots.{slot, placed}

-- the order of texts by bytes
abbrev order : List ℕ → List ℕ → Ordering
order = slice_cmp nat_cmp

equal_from_is_eq : (o : Ordering) → is_eq o ≡ true → o ≡ Equal
equal_from_is_eq Less h = cc
equal_from_is_eq Equal h = refl
equal_from_is_eq Greater h = cc

is_eq-reverse : (o : Ordering) → is_eq (ordering_reverse o) ≡ is_eq o
is_eq-reverse Less = refl
is_eq-reverse Equal = refl
is_eq-reverse Greater = refl

true_is_false : true ≡ false → ⊥
true_is_false h = cc

-- texts are the same where their order does not tell them apart
same_text-order : (t x : List ℕ) → same_text t x ≡ is_eq (order t x)
same_text-order t x = lists_ties nat_cmp (λ a b. grind (arith, nat_tests)) t x

place : {X : Type 0} (p : X → Bool) (xs : List X) (i : ℕ) → position_or_len p xs ≡ i → i < length xs → Some i ≡ position p xs
place p xs i e l = rw e (grind (arith, nat_tests))

no_place : {X : Type 0} (p : X → Bool) (xs : List X) → position_or_len p xs ≡ length xs → None ≡ position p xs
no_place p xs e = rw e (grind (arith, nat_tests))

-- no place
pub position-missing : (xs : List (List ℕ)) (t : List ℕ) → ((k : ℕ) → k < length xs → same_text t (get_or xs k []) ≡ false)
    → None ≡ position (same_text t) xs
position-missing xs t h = no_place (same_text t) xs (position_or_len_is (same_text t) xs (length xs) [] (omega arith) h (λ l. absurd (omega arith)))

-- words that are the same
pub same_is : (u w : List ℕ) → same_text u w ≡ true → u ≡ w
same_is u w h = exact_bytes u w (equal_from_is_eq (order u w) (sym (same_text-order u w) ∙ h))

-- a test that tells two words apart
apart : (test : List ℕ → Bool) (u w : List ℕ) (b : Bool) → same_text u w ≡ b → test w ≡ true → test u ≡ false → same_text u w ≡ false
apart test u w false e h k = e
apart test u w true e h k = absurd (true_is_false (sym h ∙ ap test (sym (same_is u w e)) ∙ k))

passes-at : (test : List ℕ → Bool) (ws : List (List ℕ)) → list_all test ws ≡ true → (k : ℕ) → k < length ws → test (get_or ws k []) ≡ true
passes-at test [] h k l = absurd (omega arith)
passes-at test (w ∷ ws) h zero l = (and_parts (test w) (list_all test ws) h).0
passes-at test (w ∷ ws) h (suc k) l = passes-at test ws ((and_parts (test w) (list_all test ws) h).1) k (omega arith)

-- a text that fails a test which all words pass is none of them
pub position-unlike : (test : List ℕ → Bool) (ws : List (List ℕ)) (u : List ℕ) → list_all test ws ≡ true → test u ≡ false → None ≡ position (same_text u) ws
position-unlike test ws u h k = position-missing ws u (λ i l. apart test u (get_or ws i []) (same_text u (get_or ws i [])) refl (passes-at test ws h i l) k)

-- two to twelve bytes
abbrev pub is_sized : List ℕ → Bool
is_sized w = nat_lt 1 (length w) && nat_lt (length w) 13

upper_upper : (c : ℕ) → to_ascii_uppercase (to_ascii_uppercase c) ≡ to_ascii_uppercase c
upper_upper c = grind (arith, nat_tests)

letter-upper : (t : List ℕ) (i : ℕ) → slice_index (ascii_upper t) i ≡ to_ascii_uppercase (slice_index t i)
letter-upper [] i = refl
letter-upper (c ∷ t) zero = refl
letter-upper (c ∷ t) (suc i) = letter-upper t i

again : (t : List ℕ) (i : ℕ) → to_ascii_uppercase (slice_index (ascii_upper t) i) ≡ to_ascii_uppercase (slice_index t i)
again t i = ap to_ascii_uppercase (letter-upper t i) ∙ upper_upper (slice_index t i)

-- a text has the slot of its upper case
pub slot-upper : (t : List ℕ) → slot (ascii_upper t) ≡ slot t
slot-upper t = rw (length-map, again t 0, again t 1, again t (length t - 1)) refl

-- each word stands where its slot tells
placed-at : (places : List ℕ) (n : ℕ) (ws : List (List ℕ)) → placed places n ws ≡ true → (k : ℕ) → k < length ws → slice_index places (slot (get_or ws k [])) ≡ n + k
placed-at places n [] h k l = absurd (omega arith)
placed-at places n (w ∷ ws) h zero l = let e = (and_parts (slice_index places (slot w) == n) (placed places (suc n) ws) h).0 in grind (arith, nat_tests)
placed-at places n (w ∷ ws) h (suc k) l =
    let e = placed-at places (suc n) ws ((and_parts (slice_index places (slot w) == n) (placed places (suc n) ws) h).1) k (omega arith) in omega (arith, e)

-- the word that a text is stands at the place that is noted at the text's slot
module _ (places : List ℕ) (ws : List (List ℕ)) (h : placed places 0 ws ≡ true) (u : List ℕ) where
  elsewhere : (k : ℕ) → k < length ws → k ≢ slice_index places (slot u) → (b : Bool) → same_text u (get_or ws k []) ≡ b → same_text u (get_or ws k []) ≡ false
  elsewhere k l n false e = e
  elsewhere k l n true e =
      let noted : slice_index places (slot (get_or ws k [])) ≡ 0 + k = placed-at places 0 ws h k l in
      let same : slice_index places (slot u) ≡ slice_index places (slot (get_or ws k [])) = ap (λ w. slice_index places (slot w)) (same_is u (get_or ws k []) e) in
      absurd (n (omega (arith, noted, same)))

  pub position-placed : slice_index places (slot u) < length ws → same_text u (get_or ws (slice_index places (slot u)) []) ≡ true
      → Some (slice_index places (slot u)) ≡ position (same_text u) ws
  position-placed l e =
      place (same_text u) ws (slice_index places (slot u))
      (position_or_len_is (same_text u) ws (slice_index places (slot u)) [] (omega arith)
      (λ k b. elsewhere k (omega arith) (λ q. absurd (omega (arith, q))) (same_text u (get_or ws k [])) refl) (λ _. e)) l

  decided : (slice_index places (slot u) < length ws → same_text u (get_or ws (slice_index places (slot u)) []) ≡ false)
      → (k : ℕ) → k < length ws → (b : Bool) → nat_eq k (slice_index places (slot u)) ≡ b → same_text u (get_or ws k []) ≡ false
  decided f k l true e =
      let is : slice_index places (slot u) ≡ k = grind (arith, nat_tests) in
      ap (λ i. same_text u (get_or ws i [])) (sym is) ∙ f (omega (arith, is, l))
  decided f k l false e = elsewhere k l (λ q. absurd (grind (arith, nat_tests))) (same_text u (get_or ws k [])) refl

  pub position-elsewhere : (slice_index places (slot u) < length ws → same_text u (get_or ws (slice_index places (slot u)) []) ≡ false)
      → None ≡ position (same_text u) ws
  position-elsewhere f = position-missing ws u (λ k l. decided f k l (nat_eq k (slice_index places (slot u))) refl)

-- the answer of a comparison of a word and a text
pub same-order : (u w : List ℕ) → same_text u w ≡ is_eq (slice_cmp nat_cmp w u)
same-order u w = same_text-order u w ∙ ap is_eq (nat_list_cmp_total.antisymm u w) ∙ is_eq-reverse (order w u)

-- a text of another size is no reserved word
pub is_sized-short : (t : List ℕ) → length t < 2 → is_sized (ascii_upper t) ≡ false
is_sized-short t l = simp length-map (grind (arith, nat_tests))

pub is_sized-long : (t : List ℕ) → 12 < length t → is_sized (ascii_upper t) ≡ false
is_sized-long t l = simp length-map (grind (arith, nat_tests))

-- a word among those that stand at their slots' places, and the text
module _ (places : List ℕ) (words : List (Bor (List ℕ))) (t : List ℕ) (p : ℕ) (slots : placed places 0 (map (λ w. w.now) words) ≡ true) (noted : p ≡ slice_index places (slot t)) where
  noted-upper : slice_index places (slot (ascii_upper t)) ≡ p
  noted-upper = ap (slice_index places) (slot-upper t) ∙ sym noted

  word-at : (d : Bor (List ℕ)) → p < length words → get_or (map (λ (w : Bor (List ℕ)). w.now) words) p [] ≡ (get_or words p d).now
  word-at d l = get_or-map (λ (w : Bor (List ℕ)). w.now) words p d [] l

  pub place-found : (w : Bor (List ℕ)) → p < length words → get_or words p w ≡ w → is_eq (slice_cmp nat_cmp w.now (ascii_upper t)) ≡ true
      → Some p ≡ position (same_text (ascii_upper t)) (map (λ w. w.now) words)
  place-found w l e h =
      let same : same_text (ascii_upper t) (get_or (map (λ (v : Bor (List ℕ)). v.now) words) p []) ≡ true =
      ap (same_text (ascii_upper t)) (word-at w l ∙ ap (λ (v : Bor (List ℕ)). v.now) e) ∙ same-order (ascii_upper t) w.now ∙ h in
      let found : Some (slice_index places (slot (ascii_upper t))) ≡ position (same_text (ascii_upper t)) (map (λ (v : Bor (List ℕ)). v.now) words) =
      position-placed places (map (λ (v : Bor (List ℕ)). v.now) words) slots (ascii_upper t) (rw noted-upper (simp length-map l)) (rw noted-upper same) in
      ap Some (sym noted-upper) ∙ found

  pub place-missing : (p < length words → (w : Bor (List ℕ)) × (get_or words p w ≡ w) × (is_eq (slice_cmp nat_cmp w.now (ascii_upper t)) ≡ false))
      → None ≡ position (same_text (ascii_upper t)) (map (λ w. w.now) words)
  place-missing f =
      position-elsewhere places (map (λ (v : Bor (List ℕ)). v.now) words) slots (ascii_upper t)
      (λ h. let l : p < length words = simp length-map at (rw noted-upper at h) in
      let q = f l in
      rw noted-upper
      (ap (same_text (ascii_upper t)) (word-at q.0 l ∙ ap (λ (v : Bor (List ℕ)). v.now) q.1) ∙ same-order (ascii_upper t) q.0.now ∙ q.2))
