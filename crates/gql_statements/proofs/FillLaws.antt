-- The laws of what stands between the brackets of an element to be inserted.
use Rattle.std.proofs.Common.{◌≡◌, ◌<◌, ◌≤◌, Bool, false, ◌||◌, ℕ, List, length, Option, Some, refl, arith}
use Rattle.gql_lexer.specs.declared.lexeme.Lexeme.{Lexeme}
use Rattle.gql_lexer.specs.declared.lexeme.Lexeme.TheVariants as lex
use Rattle.gql_ast.specs.declared.change.Fill.{Fill}
use Rattle.gql_ast.specs.declared.filler.MapItem.{MapItem}
use Rattle.gql_lexer.specs.SymbolPlaces.{ampersand, opening_brace}
use Rattle.gql_front.specs.Tables.{Begins}
use Rattle.gql_front.specs.Reading.{is_sign, name_in, after}
use Rattle.gql_front.proofs.Found.{Sound}
use Rattle.gql_front.proofs.TableLemmas.{begins_shorter}
use Rattle.gql_parts.specs.Parts.{Passes, IsOptional}
use Rattle.gql_parts.specs.PartWords.{is_colon}
use Rattle.gql_parts.specs.FillerGrammar.{IsMap}
use Rattle.gql_type.specs.LabelList.{BearsLabels}
use Rattle.gql_statements.specs.ChangeGrammar.{IsFill}
use Rattle.gql_parts.specs.Machinery.FillerReaders.{map_of, variable_of}
use Rattle.gql_type.specs.Machinery.LabelListReaders.{optional_labels_of}
use Rattle.gql_statements.specs.Machinery.ChangeReaders.{fill_map_of, fill_of, between_of}
use Rattle.gql_parts.proofs.PartLaws.{Stops, left_stops, right_stops, Led, bind_then, finish, passes_after, after_passes, passes_shorter, sign_apart, passes_stops, optional_stops, optional_shorter, led_sound, led_exact}
use Rattle.gql_parts.proofs.FillerLaws.{MapRest, map_sound, map_exact, map_shorter, is_name, variable_sound, variable_exact, colon_apart}
use Rattle.gql_type.proofs.LabelListLaws.{labels_sound, labels_exact, labels_shorter}

-- [Map]

map_back : (is : List MapItem) (ts r : List Lexeme) → Led (is_sign opening_brace) MapRest is ts r → IsMap is ts r
map_back is ts r h = (h.0, h.1, h.2.0, h.2.1, h.2.2)

map_forth : (is : List MapItem) (ts r : List Lexeme) → IsMap is ts r → Led (is_sign opening_brace) MapRest is ts r
map_forth is ts r h = (h.0, h.1, (h.2, h.3, h.4))

fill_map_sound : Sound (IsOptional IsMap) fill_map_of
unfolding fill_map_of
fill_map_sound = led_sound (is_sign opening_brace) map_of IsMap MapRest map_back map_forth map_sound

fill_map_exact : (is : Option (List MapItem)) (ts s : List Lexeme) → IsOptional IsMap is ts s → Stops (is_sign opening_brace) s → fill_map_of ts ≡ Some (is, s)
unfolding fill_map_of
fill_map_exact is ts s h stop = led_exact (is_sign opening_brace) map_of IsMap MapRest map_back map_forth is ts s (λ x a k. map_exact x a s k) h stop

fill_map_shorter : (is : Option (List MapItem)) (ts r : List Lexeme) → IsOptional IsMap is ts r → length r ≤ length ts
fill_map_shorter = optional_shorter IsMap (λ is ts r h. omega (arith, passes_shorter (is_sign opening_brace) ts h.0 h.1, map_shorter is h.0 r (h.2, h.3, h.4)))

-- Fills

fill_sound : Sound IsFill fill_of
unfolding fill_of
fill_sound ts f r e =
    bind_then (variable_of ts) _ (f, r) e (λ x p e.
    bind_then (optional_labels_of x.1) _ (f, r) e (λ l q e.
    bind_then (fill_map_of l.1) _ (f, r) e (λ m k e.
    finish (λ f r. IsFill f ts r) (record { variable = x.0; labels = l.0; map = m.0 }) m.1 f r e
    (x.1, variable_sound ts x.0 x.1 p, l.1, labels_sound x.1 l.0 l.1 q, fill_map_sound l.1 m.0 m.1 k))))

-- a fill may go on with these
abbrev pub goes_fill : Lexeme → Bool
goes_fill t = (is_name t || is_colon t) || (is_sign ampersand t || is_sign opening_brace t)

fill_exact : (f : Fill) (ts s : List Lexeme) → IsFill f ts s → Stops goes_fill s → fill_of ts ≡ Some (f, s)
unfolding fill_of
fill_exact f ts s h stop =
    let front = left_stops (λ t. is_name t || is_colon t) (λ t. is_sign ampersand t || is_sign opening_brace t) s stop in
    let back = right_stops (λ t. is_name t || is_colon t) (λ t. is_sign ampersand t || is_sign opening_brace t) s stop in
    let behind_labels : (g : Lexeme → Bool) → g (lex.Sign opening_brace) ≡ false → Stops g s → Stops g h.2 =
    λ g brace stop. optional_stops IsMap g f.map h.2 s (λ m k. passes_stops (is_sign opening_brace) g (sign_apart opening_brace g brace) h.2 k.0 k.1) h.4 stop in
    let behind_name : Stops is_name h.0 =
    optional_stops BearsLabels is_name f.labels h.0 h.2 (λ l k. passes_stops is_colon is_name (colon_apart is_name refl (λ x. refl)) h.0 k.0 k.1) h.3
    (behind_labels is_name refl (left_stops is_name is_colon s front)) in
    rw (
      variable_exact f.variable ts h.0 h.1 behind_name,
      labels_exact f.labels h.0 h.2 h.3
          (behind_labels is_colon refl (right_stops is_name is_colon s front))
          (behind_labels (is_sign ampersand) refl (left_stops (is_sign ampersand) (is_sign opening_brace) s back)),
      fill_map_exact f.map h.2 s h.4 (right_stops (is_sign ampersand) (is_sign opening_brace) s back),
    ) refl

fill_shorter : (f : Fill) (ts r : List Lexeme) → IsFill f ts r → length r ≤ length ts
fill_shorter f ts r h =
    omega (
      arith,
      optional_shorter (Begins name_in) (begins_shorter name_in) f.variable ts h.0 h.1,
      labels_shorter f.labels h.0 h.2 h.3,
      fill_map_shorter f.map h.2 r h.4,
    )

-- Fills between two symbols

abbrev pub Between : ℕ → ℕ → Fill → List Lexeme → List Lexeme → Type 0
Between first last f ts r = (a : List Lexeme) × Passes (is_sign first) ts a × (b : List Lexeme) × IsFill f a b × Passes (is_sign last) b r

module _ (first last : ℕ) where
  pub between_sound : Sound (Between first last) (between_of first last)
  unfolding between_of
  between_sound ts f r e =
      bind_then (after (is_sign first) ts) _ (f, r) e (λ a p e.
      bind_then (fill_of a) _ (f, r) e (λ x q e.
      bind_then (after (is_sign last) x.1) _ (f, r) e (λ b k e.
      finish (λ f r. Between first last f ts r) x.0 b f r e (a, after_passes (is_sign first) ts a p, x.1, fill_sound a x.0 x.1 q, after_passes (is_sign last) x.1 b k))))

  -- a fill does not go on with the second
  pub between_exact : goes_fill (lex.Sign last) ≡ false → (f : Fill) (ts s : List Lexeme) → Between first last f ts s → between_of first last ts ≡ Some (f, s)
  unfolding between_of
  between_exact stop f ts s h =
      let read = fill_exact f h.0 h.2 h.3 (passes_stops (is_sign last) goes_fill (sign_apart last goes_fill stop) h.2 s h.4) in
      rw (passes_after (is_sign first) ts h.0 h.1, read, passes_after (is_sign last) h.2 s h.4) refl

  pub between_shorter : (f : Fill) (ts r : List Lexeme) → Between first last f ts r → length r < length ts
  between_shorter f ts r h = omega (arith, passes_shorter (is_sign first) ts h.0 h.1, fill_shorter f h.0 h.2 h.3, passes_shorter (is_sign last) h.2 r h.4)
