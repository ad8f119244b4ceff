-- As many steps as there are: what is read is derived, and what is derived is read, where no step stands behind it.
use Rattle.std.proofs.Common.{◌≡◌, ◌<◌, ◌≤◌, ℕ, zero, suc, List, [], ◌∷◌, length, Option, Some, None, refl, sym, ap, subst, ◌∙◌, arith}
use Rattle.gql_lexer.specs.declared.lexeme.Lexeme.{Lexeme}
use Rattle.gql_front.specs.Reading.{Reader, with_step, many}
use Rattle.gql_front.proofs.Chains.{Many}
use Rattle.gql_front.proofs.Found.{Sound}

pub many_none : {C : Type 0} (step : Reader C) (b : ℕ) (s : List Lexeme) → step s ≡ None → many step b s ≡ ([], s)
unfolding many
many_none step zero s e = refl
many_none step (suc b) s e = rw e refl

pub many_next : {C : Type 0} (step : Reader C) (b : ℕ) (ts : List Lexeme) (x : C) (m : List Lexeme) (xs : List C) (s : List Lexeme) → step ts ≡ Some (x, m)
    → many step b m ≡ (xs, s) → many step (suc b) ts ≡ (x ∷ xs, s)
unfolding many
many_next {C} step b ts x m xs s e more = ap (λ o. with_step ts o (many step b)) e ∙ ap (λ (z : List C × List Lexeme). (x ∷ z.0, z.1)) more

-- L is {Q}*
module _ {C : Type 0} (step : Reader C) (Q : C → List Lexeme → List Lexeme → Type 0) (L : List C → List Lexeme → List Lexeme → Type 0) (laws : Many Q L) where
  pub many_sound : Sound Q step → (b : ℕ) (ts : List Lexeme) → L (many step b ts).0 ts (many step b ts).1
  unfolding many
  many_sound sound zero ts = laws.none ts
  many_sound sound (suc b) ts = go (λ r. many_sound sound b r) (step ts) refl
    where
      go : ((r : List Lexeme) → L (many step b r).0 r (many step b r).1) → (o : Option (C × List Lexeme)) → step ts ≡ o → L (with_step ts o (many step b)).0 ts (with_step ts o (many step b)).1
      go ih None e = laws.none ts
      go ih (Some (c, m)) e = laws.more c (many step b m).0 ts m (many step b m).1 (sound ts c m e) (ih m)

  module _ (shorter : (c : C) (ts r : List Lexeme) → Q c ts r → length r < length ts) where
    pub many_exact : ((c : C) (ts s : List Lexeme) → Q c ts s → step ts ≡ Some (c, s)) → (cs : List C) (b : ℕ) (ts s : List Lexeme) → length ts ≤ b → L cs ts s → step s ≡ None
        → many step b ts ≡ (cs, s)
    many_exact exact [] b ts s le h none = subst (λ z. many step b z ≡ ([], s)) (sym (laws.is_none ts s h)) (many_none step b s none)
    many_exact exact (c ∷ cs) zero ts s le h none = let m = laws.is_more c cs ts s h in absurd (omega (arith, shorter c ts m.0 m.1))
    many_exact exact (c ∷ cs) (suc b) ts s le h none =
        let m = laws.is_more c cs ts s h in
        many_next step b ts c m.0 cs s (exact c ts m.0 m.1) (many_exact exact cs b m.0 s (omega (arith, shorter c ts m.0 m.1)) m.2 none)

    pub many_shorter : (cs : List C) (ts r : List Lexeme) → L cs ts r → length r ≤ length ts
    many_shorter [] ts r h = omega (arith, ap length (laws.is_none ts r h))
    many_shorter (c ∷ cs) ts r h = let m = laws.is_more c cs ts r h in omega (arith, shorter c ts m.0 m.1, many_shorter cs m.0 r m.2)
