-- The laws of the labels of an element: what is read is derived, and what is derived is read where nothing follows with which they could go on.
use Rattle.std.proofs.Common.{◌≡◌, ◌<◌, ◌≤◌, ℕ, List, [], ◌∷◌, length, Option, Some, None, refl, ap, arith}
use Rattle.gql_lexer.specs.declared.lexeme.Lexeme.{Lexeme}
use Rattle.gql_lexer.specs.SymbolPlaces.{ampersand}
use Rattle.gql_front.specs.Tables.{Begins}
use Rattle.gql_front.specs.Reading.{is_sign, any_name_in, after, op_at, many}
use Rattle.gql_front.proofs.Chains.{Many}
use Rattle.gql_front.proofs.Found.{Sound}
use Rattle.gql_front.proofs.TableLemmas.{begins_read, read_begins, begins_shorter}
use Rattle.gql_parts.specs.Parts.{Passes, IsOptional}
use Rattle.gql_parts.specs.PartWords.{is_colon}
use Rattle.gql_parts.proofs.PartLaws.{Stops, bind_then, finish, passes_after, after_passes, passes_shorter, stops_after, optional_shorter, led_sound, led_exact}
use Rattle.gql_parts.proofs.ManyLaws.{many_sound, many_exact, many_shorter}
use Rattle.gql_type.specs.LabelList.{AreMoreLabels, AreLabels, BearsLabels}
use Rattle.gql_type.specs.Machinery.LabelListReaders.{other_label_of, label_names_of, optional_labels_of}

-- {"&" Any}*
abbrev OtherLabel : List ℕ → List Lexeme → List Lexeme → Type 0
OtherLabel l ts r = (a : List Lexeme) × Passes (is_sign ampersand) ts a × Begins any_name_in l a r

others_are : Many OtherLabel AreMoreLabels
others_are = record { none = λ r. refl; is_none = λ ts r h. h; more = more; is_more = is_more }
  where
    more : (l : List ℕ) (ls : List (List ℕ)) (ts m r : List Lexeme) → OtherLabel l ts m → AreMoreLabels ls m r → AreMoreLabels (l ∷ ls) ts r
    more l ls ts m r h k = (h.0, h.1, m, h.2, k)

    is_more : (l : List ℕ) (ls : List (List ℕ)) (ts r : List Lexeme) → AreMoreLabels (l ∷ ls) ts r → (m : List Lexeme) × OtherLabel l ts m × AreMoreLabels ls m r
    is_more l ls ts r h = (h.2, (h.0, h.1, h.3), h.4)

other_label_sound : Sound OtherLabel other_label_of
unfolding other_label_of
other_label_sound ts l r e = bind_then (after (is_sign ampersand) ts) _ (l, r) e (λ a p e. (a, after_passes (is_sign ampersand) ts a p, read_begins any_name_in a l r e))

other_label_exact : (l : List ℕ) (ts s : List Lexeme) → OtherLabel l ts s → other_label_of ts ≡ Some (l, s)
unfolding other_label_of
other_label_exact l ts s h = rw (passes_after (is_sign ampersand) ts h.0 h.1) (begins_read any_name_in l h.0 s h.2)

other_label_shorter : (l : List ℕ) (ts r : List Lexeme) → OtherLabel l ts r → length r < length ts
other_label_shorter l ts r h = omega (arith, passes_shorter (is_sign ampersand) ts h.0 h.1, begins_shorter any_name_in l h.0 r h.2)

no_ampersand : (s : List Lexeme) → Stops (is_sign ampersand) s → other_label_of s ≡ None
unfolding other_label_of
no_ampersand s stop = rw (stops_after (is_sign ampersand) s stop) refl

-- Any {"&" Any}*
label_names_sound : Sound AreLabels label_names_of
unfolding label_names_of
label_names_sound ts ls r e =
    bind_then (op_at any_name_in ts) _ (ls, r) e (λ x p e.
    let others = many other_label_of (length x.1) x.1 in
    finish (λ ls r. AreLabels ls ts r) (x.0 ∷ others.0) others.1 ls r e
    (x.1, read_begins any_name_in ts x.0 x.1 p, many_sound other_label_of OtherLabel AreMoreLabels others_are other_label_sound (length x.1) x.1))

label_names_exact : (ls : List (List ℕ)) (ts s : List Lexeme) → AreLabels ls ts s → Stops (is_sign ampersand) s → label_names_of ts ≡ Some (ls, s)
unfolding label_names_of
label_names_exact [] ts s h stop = absurd h
label_names_exact (l ∷ ls) ts s h stop =
    let others = many_exact other_label_of OtherLabel AreMoreLabels others_are other_label_shorter other_label_exact ls (length h.0) h.0 s (omega arith) h.2 (no_ampersand s stop) in
    rw (begins_read any_name_in l ts h.0 h.1) (ap (λ (z : List (List ℕ) × List Lexeme). Some (l ∷ z.0, z.1)) others)

label_names_shorter : (ls : List (List ℕ)) (ts r : List Lexeme) → AreLabels ls ts r → length r < length ts
label_names_shorter [] ts r h = absurd h
label_names_shorter (l ∷ ls) ts r h =
    omega (arith, begins_shorter any_name_in l ts h.0 h.1, many_shorter other_label_of OtherLabel AreMoreLabels others_are other_label_shorter ls h.0 r h.2)

-- [(":" or IS) Labels]
pub labels_sound : Sound (IsOptional BearsLabels) optional_labels_of
unfolding optional_labels_of
labels_sound = led_sound is_colon label_names_of BearsLabels AreLabels (λ x ts r h. h) (λ x ts r h. h) label_names_sound

pub labels_exact : (ls : Option (List (List ℕ))) (ts s : List Lexeme) → IsOptional BearsLabels ls ts s → Stops is_colon s → Stops (is_sign ampersand) s → optional_labels_of ts ≡ Some (ls, s)
unfolding optional_labels_of
labels_exact ls ts s h stop end =
    led_exact is_colon label_names_of BearsLabels AreLabels (λ x ts r h. h) (λ x ts r h. h) ls ts s (λ x a k. label_names_exact x a s k end) h stop

pub labels_shorter : (ls : Option (List (List ℕ))) (ts r : List Lexeme) → IsOptional BearsLabels ls ts r → length r ≤ length ts
labels_shorter = optional_shorter BearsLabels (λ l ts r h. omega (arith, passes_shorter is_colon ts h.0 h.1, label_names_shorter l h.0 r h.2))
