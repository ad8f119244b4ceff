-- More ways to put readers together: an optional part, one of two, and the last part of a sequence.
use Rattle.std.proofs.Common.{◌≡◌, ◌⊎◌, inl, inr, Bool, ◌||◌, List, Option, Some, None, refl, sym, ap, ◌∙◌}
use Rattle.gql_lexer.specs.declared.lexeme.Lexeme.{Lexeme}
use Rattle.gql_front.specs.Reading.{◌>>=◌, Reader, maybe, opted, either, chosen}
use Rattle.gql_front.proofs.Found.{Found, exact, longer, Shrinks, some_is, Goes-left, Goes-right}
use Rattle.gql_front.proofs.Chains.{Opens}

-- the last part of a sequence: what it may go on with, the whole may
pub last_found : {A B : Type 0} (res : Option (A × List Lexeme)) (build : A → B) (g : Lexeme → Bool) (y : A) (s : List Lexeme) → Found res g y s → Found (res >>= λ x. Some (build x.0, x.1)) g (build y) s
last_found res build g y s (exact e) = exact (rw e refl)
last_found res build g y s (longer x r e l i) = longer (build x) r (rw e refl) l i

pub weaker_found : {A : Type 0} (res : Option (A × List Lexeme)) (g h : Lexeme → Bool) (y : A) (s : List Lexeme) → Found res g y s → Found res (λ t. g t || h t) y s
weaker_found res g h y s (exact e) = exact e
weaker_found res g h y s (longer x r e l i) = longer x r e l (Goes-left g h s i)

-- [item]: goes on with what an item goes on with, g, or begins with, h
module _ {A : Type 0} (item : Reader A) (g h : Lexeme → Bool) (shrinks : Shrinks item) (opens : Opens h item) where
  pub maybe_some : (ts : List Lexeme) (y : A) (s : List Lexeme) → Found (item ts) g y s → Found (maybe item ts) (λ t. g t || h t) (Some y) s
  unfolding maybe
  maybe_some ts y s (exact e) = exact (rw e refl)
  maybe_some ts y s (longer x r e l i) = longer (Some x) r (rw e refl) l (Goes-left g h s i)

  pub maybe_none : (ts : List Lexeme) → Found (maybe item ts) (λ t. g t || h t) None ts
  unfolding maybe
  maybe_none ts = go (item ts) refl
    where
      go : (o : Option (A × List Lexeme)) → item ts ≡ o → Found (Some (opted ts o)) (λ t. g t || h t) None ts
      go None e = exact refl
      go (Some x) e = longer (Some x.0) x.1 refl (shrinks ts x.0 x.1 e) (Goes-right g h ts (opens ts x e))

  pub maybe_is : (ts : List Lexeme) (o : Option A) (r : List Lexeme) → maybe item ts ≡ Some (o, r) → ((o ≡ None) × (ts ≡ r)) ⊎ ((x : A) × (o ≡ Some x) × (item ts ≡ Some (x, r)))
  unfolding maybe
  maybe_is ts o r e = go (item ts) refl (some_is (opted ts (item ts)) (o, r) e)
    where
      go : (i : Option (A × List Lexeme)) → item ts ≡ i → opted ts i ≡ (o, r) → ((o ≡ None) × (ts ≡ r)) ⊎ ((x : A) × (o ≡ Some x) × (item ts ≡ Some (x, r)))
      go None p q = inl (sym (ap (λ (z : Option A × List Lexeme). z.0) q), ap (λ (z : Option A × List Lexeme). z.1) q)
      go (Some x) p q = inr (x.0, sym (ap (λ (z : Option A × List Lexeme). z.0) q), p ∙ ap (λ (z : Option A × List Lexeme). Some (x.0, z.1)) q)

-- one of two that share no front: the first where it can be read, else the second
module _ {A : Type 0} (p q : Reader A) (g h : Lexeme → Bool) where
  pub either_first : (ts : List Lexeme) (y : A) (s : List Lexeme) → Found (p ts) g y s → Found (either p q ts) (λ t. g t || h t) y s
  unfolding either
  either_first ts y s (exact e) = exact (rw e refl)
  either_first ts y s (longer x r e l i) = longer x r (rw e refl) l (Goes-left g h s i)

  pub either_second : (ts : List Lexeme) (y : A) (s : List Lexeme) → p ts ≡ None → Found (q ts) h y s → Found (either p q ts) (λ t. g t || h t) y s
  unfolding either
  either_second ts y s un (exact e) = exact (rw (un, e) refl)
  either_second ts y s un (longer x r e l i) = longer x r (rw (un, e) refl) l (Goes-right g h s i)

  pub either_is : (ts : List Lexeme) (x : A × List Lexeme) → either p q ts ≡ Some x → (p ts ≡ Some x) ⊎ (q ts ≡ Some x)
  unfolding either
  either_is ts x e = go (p ts) refl e
    where
      go : (o : Option (A × List Lexeme)) → p ts ≡ o → chosen o (q ts) ≡ Some x → (p ts ≡ Some x) ⊎ (q ts ≡ Some x)
      go None k e = inr e
      go (Some y) k e = inl (k ∙ e)
