-- Fronts by their places: from the longest front of what is behind a place to the clauses of a top call.
use Rattle.std.proofs.Common.{◌≡◌, ℕ, ◌+◌, ◌-◌, ◌<◌, ◌≤◌, ◌⊎◌, inl, inr, List, [], ◌∷◌, ◌++◌, length, take, drop, Option, Some, None, refl, sym, ap, subst, ◌∙◌, arith, length-append, length-drop}
use Rattle.std.proofs.lemmas.List.{append-nil, take-append-drop}
use Rattle.std.specs.Prelude.{Err}
use Rattle.gql_lexer.specs.declared.lexeme.Lexeme.{Lexeme}
use Rattle.gql_ast.specs.declared.parse_fault.ParseFault.{ParseFault}
use Rattle.gql_ast.specs.declared.parse_fault.ParseFault.TheVariants as fault
use Rattle.gql_front.specs.Gives.{Fails, IsSyntax, IsDeep}
use Rattle.gql_front.specs.Longest.{Longest, IsFrontOf}
use Rattle.gql_front.specs.Reading.{Reader}
use Rattle.gql_front.proofs.Fronts.{Front}

taken : (xs ys : List Lexeme) (n : ℕ) → n ≡ length xs → take n (xs ++ ys) ≡ xs
taken [] ys n e = subst (λ z. take z ys ≡ []) (sym e) refl
taken (x ∷ xs) ys n e = subst (λ z. take z (x ∷ (xs ++ ys)) ≡ x ∷ xs) (sym e) (ap (λ z. x ∷ z) (taken xs ys (length xs) refl))

-- the lexemes behind a front, by the place where it ends
module _ {A : Type 0} (P : A → List Lexeme → List Lexeme → Type 0) (shorter : (x : A) (ts r : List Lexeme) → P x ts r → length r < length ts)
    (front_of : (x : A) (ts r : List Lexeme) → P x ts r → Front (P x) ts r) (read : Reader A) (longest : (ts : List Lexeme) → Longest P ts (read ts)) where
  front_at : (ts : List Lexeme) (at : ℕ) (x : A) (r : List Lexeme) → at ≤ length ts → P x (drop at ts) r → IsFrontOf P ts at (length ts - length r) x
  front_at ts at x r le h =
      let f = front_of x (drop at ts) r h in
      let less = shorter x (drop at ts) r h in
      let sizes : length (drop at ts) ≡ length f.front + length r = ap length f.whole ∙ length-append f.front r in
      let within = length-drop at ts in
      let size : (length ts - length r) - at ≡ length f.front = omega arith in
      let same : take ((length ts - length r) - at) (drop at ts) ≡ f.front = ap (λ z. take ((length ts - length r) - at) z) f.whole ∙ taken f.front r ((length ts - length r) - at) size in
      (omega arith, omega arith, subst (λ z. P x z []) (append-nil f.front ∙ sym same) (f.alone []))

  at_front : (ts : List Lexeme) (at j : ℕ) (y : A) → IsFrontOf P ts at j y → P y (drop at ts) (drop (j - at) (drop at ts))
  at_front ts at j y h =
      let f = front_of y (take (j - at) (drop at ts)) [] h.2 in
      let same : f.front ++ drop (j - at) (drop at ts) ≡ drop at ts = ap (λ z. z ++ drop (j - at) (drop at ts)) (sym (f.whole ∙ append-nil f.front)) ∙ take-append-drop (j - at) (drop at ts) in
      subst (λ z. P y z (drop (j - at) (drop at ts))) same (f.alone (drop (j - at) (drop at ts)))

  read_at : (ts : List Lexeme) (at : ℕ) (rest : List Lexeme) (o : Option (A × List Lexeme)) → rest ≡ drop at ts → read rest ≡ o → Longest P (drop at ts) o
  read_at ts at rest o same e = subst (λ o. Longest P (drop at ts) o) (ap read (sym same) ∙ e) (longest (drop at ts))

  pub parsed_front : (ts : List Lexeme) (at : ℕ) (rest : List Lexeme) (x : A) (r : List Lexeme) → at ≤ length ts → rest ≡ drop at ts → read rest ≡ Some (x, r)
      → IsFrontOf P ts at (length ts - length r) x
  parsed_front ts at rest x r le same e = let l = read_at ts at rest (Some (x, r)) same e in front_at ts at x r le l.0

  pub parsed_longest : (ts : List Lexeme) (at : ℕ) (rest : List Lexeme) (x : A) (r : List Lexeme) → at ≤ length ts → rest ≡ drop at ts → read rest ≡ Some (x, r)
      → (j : ℕ) (y : A) → IsFrontOf P ts at j y → (j < length ts - length r) ⊎ ((j ≡ length ts - length r) × (y ≡ x))
  parsed_longest ts at rest x r le same e j y h =
      let l = read_at ts at rest (Some (x, r)) same e in
      go l.0 (l.1 y (drop (j - at) (drop at ts)) (at_front ts at j y h))
    where
      go : P x (drop at ts) r → ((y ≡ x) × (drop (j - at) (drop at ts) ≡ r)) ⊎ (length r < length (drop (j - at) (drop at ts))) → (j < length ts - length r) ⊎ ((j ≡ length ts - length r) × (y ≡ x))
      go d (inl (p, q)) = inr (omega (arith, h.0, h.1, length-drop at ts, length-drop (j - at) (drop at ts), ap length q, shorter x (drop at ts) r d), p)
      go d (inr l) = inl (omega (arith, h.0, h.1, length-drop at ts, length-drop (j - at) (drop at ts), l))

  pub refused : (ts : List Lexeme) (at : ℕ) (rest : List Lexeme) (X : Type 0) (f : ParseFault) → rest ≡ drop at ts → Fails f (read rest) → IsSyntax {X = X} (Err f)
      → (j : ℕ) (y : A) → IsFrontOf P ts at j y → ⊥
  refused ts at rest X fault.Deep same h i j y k = absurd i
  refused ts at rest X fault.OutOfMemory same h i j y k = absurd i
  refused ts at rest X fault.Syntax same e i j y h =
      let l = read_at ts at rest None same e in
      l y (drop (j - at) (drop at ts)) (at_front ts at j y h)

  pub never_deep : (rest : List Lexeme) (X : Type 0) (f : ParseFault) → Fails f (read rest) → IsDeep {X = X} (Err f) → ⊥
  never_deep rest X fault.Deep h i = absurd h
  never_deep rest X fault.OutOfMemory h i = absurd i
  never_deep rest X fault.Syntax h i = absurd i
