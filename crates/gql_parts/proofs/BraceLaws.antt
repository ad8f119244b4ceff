-- Items between commas up to a closing brace, or none.
use Rattle.std.proofs.Common.{◌≡◌, ◌<◌, Bool, false, List, [], ◌∷◌, length, Option, Some, None, refl, sym, ap, subst, ◌∙◌, arith}
use Rattle.gql_lexer.specs.declared.lexeme.Lexeme.{Lexeme}
use Rattle.gql_lexer.specs.declared.lexeme.Lexeme.TheVariants as lex
use Rattle.gql_lexer.specs.SymbolPlaces.{closing_brace, comma}
use Rattle.gql_front.specs.Reading.{Reader, is_sign, after}
use Rattle.gql_front.proofs.Found.{Sound}
use Rattle.gql_parts.specs.Parts.{Passes, IsListOf, MayList}
use Rattle.gql_parts.specs.Machinery.PartReaders.{listed, listed_or_brace, listed_to_brace}
use Rattle.gql_parts.proofs.PartLaws.{Stops, bind_then, finish, passes_after, after_passes, passes_shorter, stops_after, sign_apart, passes_stops}
use Rattle.gql_parts.proofs.ListLaws.{listed_sound, listed_exact, list_shorter}

-- what stands behind the opening brace
abbrev pub ToBrace : {A : Type 0} → (A → List Lexeme → List Lexeme → Type 0) → List A → List Lexeme → List Lexeme → Type 0
ToBrace P xs ts r = (b : List Lexeme) × MayList P xs ts b × Passes (is_sign closing_brace) b r

module _ {A : Type 0} (item : Reader A) (P : A → List Lexeme → List Lexeme → Type 0) where
  may_list : (xs : List A) (ts r : List Lexeme) → IsListOf P xs ts r → MayList P xs ts r
  may_list [] ts r h = absurd h
  may_list (x ∷ xs) ts r h = h

  pub to_brace_sound : Sound P item → Sound (ToBrace P) (listed_to_brace item)
  to_brace_sound sound ts xs r e = go (after (is_sign closing_brace) ts) refl e
    where
      go : (o : Option (List Lexeme)) → after (is_sign closing_brace) ts ≡ o → listed_or_brace item ts o ≡ Some (xs, r) → ToBrace P xs ts r
      go (Some a) p k = finish (λ xs r. ToBrace P xs ts r) [] a xs r k (ts, refl, after_passes (is_sign closing_brace) ts a p)
      go None p k =
          bind_then (listed item ts) _ (xs, r) k (λ l q k.
          bind_then (after (is_sign closing_brace) l.1) _ (xs, r) k (λ a j k.
          finish (λ xs r. ToBrace P xs ts r) l.0 a xs r k
          (l.1, may_list l.0 ts l.1 (listed_sound item P sound ts l.0 l.1 q), after_passes (is_sign closing_brace) l.1 a j)))

  module _ (shorter : (x : A) (ts r : List Lexeme) → P x ts r → length r < length ts) where
    -- an item goes on with no comma and no brace, and begins with no brace
    module _ (g : Lexeme → Bool) (comma_free : g (lex.Sign comma) ≡ false) (brace_free : g (lex.Sign closing_brace) ≡ false)
        (exact : (x : A) (ts s : List Lexeme) → P x ts s → Stops g s → item ts ≡ Some (x, s))
        (starts : (x : A) (ts s : List Lexeme) → P x ts s → Stops (is_sign closing_brace) ts) where
      pub to_brace_exact : (xs : List A) (ts s : List Lexeme) → ToBrace P xs ts s → listed_to_brace item ts ≡ Some (xs, s)
      to_brace_exact [] ts s h =
          ap (listed_or_brace item ts) (passes_after (is_sign closing_brace) ts s (subst (λ z. Passes (is_sign closing_brace) z s) (sym h.1) h.2))
      to_brace_exact (x ∷ xs) ts s h =
          let list = h.1 in
          let read = listed_exact item P g comma_free shorter exact (x ∷ xs) ts h.0 list
          (passes_stops (is_sign closing_brace) g (sign_apart closing_brace g brace_free) h.0 s h.2)
          (passes_stops (is_sign closing_brace) (is_sign comma) (sign_apart closing_brace (is_sign comma) refl) h.0 s h.2) in
          ap (listed_or_brace item ts) (stops_after (is_sign closing_brace) ts (starts x ts list.0 list.1))
          ∙ rw (read, passes_after (is_sign closing_brace) h.0 s h.2) refl

    pub to_brace_shorter : (xs : List A) (ts r : List Lexeme) → ToBrace P xs ts r → length r < length ts
    to_brace_shorter [] ts r h = omega (arith, ap length h.1, passes_shorter (is_sign closing_brace) h.0 r h.2)
    to_brace_shorter (x ∷ xs) ts r h = omega (arith, list_shorter item P shorter (x ∷ xs) ts h.0 h.1, passes_shorter (is_sign closing_brace) h.0 r h.2)
