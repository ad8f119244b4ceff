-- Lists between commas.
use Rattle.std.proofs.Common.{◌≡◌, ◌<◌, ◌≤◌, Bool, false, ℕ, zero, suc, List, [], ◌∷◌, length, Option, Some, refl, sym, ap, subst, ◌∙◌, arith}
use Rattle.gql_lexer.specs.declared.lexeme.Lexeme.{Lexeme}
use Rattle.gql_lexer.specs.declared.lexeme.Lexeme.TheVariants as lex
use Rattle.gql_lexer.specs.SymbolPlaces.{comma}
use Rattle.gql_front.specs.Reading.{◌>>=◌, Reader, is_sign, step, many, sequence}
use Rattle.gql_front.proofs.Found.{Sound, StepIs, step_sound, no_operator, one_step}
use Rattle.gql_front.proofs.Chains.{Many, sequence_read}
use Rattle.gql_front.proofs.LexemeTests.{cond_some_is}
use Rattle.gql_exprs.specs.Machinery.LeafReaders.{comma_op}
use Rattle.gql_exprs.proofs.ChainLoops.{symbol_none, symbol_some}
use Rattle.gql_parts.specs.Parts.{AreOthers, IsListOf}
use Rattle.gql_parts.specs.Machinery.PartReaders.{taken, listed}
use Rattle.gql_parts.proofs.PartLaws.{Stops, passes_after, stops_after, sign_apart, passes_stops}
use Rattle.gql_parts.proofs.ManyLaws.{many_none, many_next}

module _ {A : Type 0} (item : Reader A) (P : A → List Lexeme → List Lexeme → Type 0) where
  pub others_are : Many (StepIs comma_op P taken) (AreOthers P)
  others_are = record { none = λ r. refl; is_none = λ ts r h. h; more = more; is_more = is_more }
    where
      more : (c : A) (cs : List A) (ts m r : List Lexeme) → StepIs comma_op P taken c ts m → AreOthers P cs m r → AreOthers P (c ∷ cs) ts r
      more c cs ts m r h l =
          (h.behind, (h.token, (cond_some_is (is_sign comma h.token) tt h.operator h.is_operator).0, h.whole), m, subst (λ z. P z h.behind m) h.made h.derived, l)

      is_more : (c : A) (cs : List A) (ts r : List Lexeme) → AreOthers P (c ∷ cs) ts r → (m : List Lexeme) × StepIs comma_op P taken c ts m × AreOthers P cs m r
      is_more c cs ts r h =
          (h.2, record { token = h.1.0; behind = h.0; operator = tt; item = c; made = refl; is_operator = rw h.1.1 refl; whole = h.1.2; derived = h.3 }, h.4)

  pub listed_sound : Sound P item → Sound (IsListOf P) (listed item)
  listed_sound sound ts xs r e =
      let h = sequence_read item (step comma_op item taken) (λ x xs. x ∷ xs) P (StepIs comma_op P taken) (AreOthers P) others_are sound (step_sound comma_op item taken P sound) ts xs r e in
      subst (λ z. IsListOf P z ts r) (sym h.built) (h.middle, h.is_first, h.are_others)

  module _ (g : Lexeme → Bool) (comma_free : g (lex.Sign comma) ≡ false) (shorter : (x : A) (ts r : List Lexeme) → P x ts r → length r < length ts)
      (exact : (x : A) (ts s : List Lexeme) → P x ts s → Stops g s → item ts ≡ Some (x, s)) where
    others_stop : (xs : List A) (m s : List Lexeme) → AreOthers P xs m s → Stops g s → Stops g m
    others_stop [] m s h stop = subst (λ z. Stops g z) (sym h) stop
    others_stop (x ∷ xs) m s h stop = passes_stops (is_sign comma) g (sign_apart comma g comma_free) m h.0 h.1

    others_exact : (xs : List A) (b : ℕ) (ts s : List Lexeme) → length ts ≤ b → AreOthers P xs ts s → Stops g s → Stops (is_sign comma) s
        → many (step comma_op item taken) b ts ≡ (xs, s)
    others_exact [] b ts s le h stop end =
        subst (λ z. many (step comma_op item taken) b z ≡ ([], s)) (sym h) (many_none (step comma_op item taken) b s (no_operator comma_op item taken s (symbol_none comma s (stops_after (is_sign comma) s end))))
    others_exact (x ∷ xs) zero ts s le h stop end = absurd (omega (arith, ap length h.1.2))
    others_exact (x ∷ xs) (suc b) ts s le h stop end =
        let read = exact x h.0 h.2 h.3 (others_stop xs h.2 s h.4 stop) in
        many_next (step comma_op item taken) b ts x h.2 xs s (one_step comma_op item taken ts tt h.0 x h.2 (symbol_some comma ts h.0 (passes_after (is_sign comma) ts h.0 h.1)) read)
        (others_exact xs b h.2 s (omega (arith, ap length h.1.2, shorter x h.0 h.2 h.3)) h.4 stop end)

    pub listed_exact : (xs : List A) (ts s : List Lexeme) → IsListOf P xs ts s → Stops g s → Stops (is_sign comma) s → listed item ts ≡ Some (xs, s)
    unfolding sequence
    listed_exact [] ts s h stop end = absurd h
    listed_exact (x ∷ xs) ts s h stop end =
        let read = exact x ts h.0 h.1 (others_stop xs h.0 s h.2 stop) in
        let rest = others_exact xs (length h.0) h.0 s (omega arith) h.2 stop end in
        ap (λ (o : Option (A × List Lexeme)). o >>= λ x. Some (x.0 ∷ (many (step comma_op item taken) (length x.1) x.1).0, (many (step comma_op item taken) (length x.1) x.1).1)) read
        ∙ ap (λ (z : List A × List Lexeme). Some (x ∷ z.0, z.1)) rest

  pub others_shorter : ((x : A) (ts r : List Lexeme) → P x ts r → length r < length ts) → (xs : List A) (ts r : List Lexeme) → AreOthers P xs ts r → length r ≤ length ts
  others_shorter shorter [] ts r h = omega (arith, ap length h)
  others_shorter shorter (x ∷ xs) ts r h = omega (arith, ap length h.1.2, shorter x h.0 h.2 h.3, others_shorter shorter xs h.2 r h.4)

  pub list_shorter : ((x : A) (ts r : List Lexeme) → P x ts r → length r < length ts) → (xs : List A) (ts r : List Lexeme) → IsListOf P xs ts r → length r < length ts
  list_shorter shorter [] ts r h = absurd h
  list_shorter shorter (x ∷ xs) ts r h = omega (arith, shorter x ts h.0 h.1, others_shorter shorter xs h.0 r h.2)
