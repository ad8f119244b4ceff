-- What a reader owes, and how readers are put together. These serve every grammar.
use Rattle.std.proofs.Common.{◌≡◌, ℕ, zero, suc, ◌<◌, ◌≤◌, ◌⊎◌, inl, inr, Bool, true, false, ◌||◌, List, [], ◌∷◌, length, Option, Some, None, refl, sym, ap, subst, ◌∙◌, arith}
use Rattle.gql_lexer.specs.declared.lexeme.Lexeme.{Lexeme}
use Rattle.gql_front.specs.Reading.{◌>>=◌, Reader, op_at, before, step, with_step, many, sequence, prefixed, prefix, with_ending, suffix}

abbrev pub is_there : {A : Type 0} → Option A → Bool
is_there None = false
is_there (Some x) = true

-- the next lexeme may go on with what was derived
abbrev pub Goes : (Lexeme → Bool) → List Lexeme → Type 0
Goes g [] = ⊥
Goes g (t ∷ ts) = g t ≡ true

-- of a derivation of y that leaves s: it was read, or more was
pub data Found {A : Type 0} (res : Option (A × List Lexeme)) (g : Lexeme → Bool) (y : A) (s : List Lexeme) : Type 0 where
  exact : res ≡ Some (y, s) → Found res g y s
  longer : (x : A) (r : List Lexeme) → res ≡ Some (x, r) → length r < length s → Goes g s → Found res g y s

pub data FoundSteps {C : Type 0} (res : List C × List Lexeme) (g : Lexeme → Bool) (ys : List C) (s : List Lexeme) : Type 0 where
  exact_steps : res ≡ (ys, s) → FoundSteps res g ys s
  longer_steps : (xs : List C) (r : List Lexeme) → res ≡ (xs, r) → length r < length s → Goes g s → FoundSteps res g ys s

abbrev pub Sound : {A : Type 0} → (A → List Lexeme → List Lexeme → Type 0) → Reader A → Type 0
Sound {A} P p = (ts : List Lexeme) (x : A) (r : List Lexeme) → p ts ≡ Some (x, r) → P x ts r

-- on at most n lexemes
abbrev pub Complete : {A : Type 0} → ℕ → (A → List Lexeme → List Lexeme → Type 0) → (Lexeme → Bool) → Reader A → Type 0
Complete {A} n P g p = (y : A) (ts s : List Lexeme) → length ts ≤ n → P y ts s → Found (p ts) g y s

-- each reads a lexeme at least
abbrev pub Shrinks : {A : Type 0} → Reader A → Type 0
Shrinks {A} p = (ts : List Lexeme) (x : A) (r : List Lexeme) → p ts ≡ Some (x, r) → length r < length ts

pub some_is : {A : Type 0} (x y : A) → Some x ≡ Some y → x ≡ y
some_is x y e = cc

pub bind_some : {A B : Type 0} (o : Option A) (f : A → Option B) (y : B) → (o >>= f) ≡ Some y → (x : A) × (o ≡ Some x) × (f x ≡ Some y)
bind_some None f y e = absurd cc
bind_some (Some x) f y e = (x, refl, e)

pub exact_at : {A : Type 0} (res : Option (A × List Lexeme)) (g : Lexeme → Bool) (y : A) (s : List Lexeme) → Found res g y s → (Goes g s → ⊥) → res ≡ Some (y, s)
exact_at res g y s (exact e) stop = e
exact_at res g y s (longer x r e l h) stop = absurd (stop h)

abbrev pub or_op_of : {O : Type 0} → (Lexeme → Bool) → (Lexeme → Option O) → Lexeme → Bool
or_op_of g op t = g t || is_there (op t)

or_left : (a b : Bool) → a ≡ true → (a || b) ≡ true
or_left true b e = refl
or_left false b e = absurd cc

or_right : (a b : Bool) → b ≡ true → (a || b) ≡ true
or_right true b e = refl
or_right false b e = e

pub Goes-left : (g h : Lexeme → Bool) (s : List Lexeme) → Goes g s → Goes (λ t. g t || h t) s
Goes-left g h [] e = e
Goes-left g h (t ∷ ts) e = or_left (g t) (h t) e

pub Goes-right : (g h : Lexeme → Bool) (s : List Lexeme) → Goes h s → Goes (λ t. g t || h t) s
Goes-right g h [] e = e
Goes-right g h (t ∷ ts) e = or_right (g t) (h t) e

module _ {C : Type 0} (step : Reader C) (shrinks : Shrinks step) where
  pub many_shrink : (n : ℕ) (ts : List Lexeme) → length (many step n ts).1 ≤ length ts
  unfolding many
  many_shrink zero ts = omega arith
  many_shrink (suc n) ts = go (λ r. many_shrink n r) (step ts) refl
    where
      go : ((r : List Lexeme) → length (many step n r).1 ≤ length r) → (o : Option (C × List Lexeme)) → step ts ≡ o → length (with_step ts o (many step n)).1 ≤ length ts
      go ih None e = omega arith
      go ih (Some x) e = omega (arith, ih x.1, shrinks ts x.0 x.1 e)

  -- the steps do not depend on their bound
  pub many_same : (n m : ℕ) (ts : List Lexeme) → length ts ≤ n → length ts ≤ m → many step n ts ≡ many step m ts
  unfolding many
  many_same zero zero ts h k = refl
  many_same zero (suc m) ts h k = go (step ts) refl
    where
      go : (o : Option (C × List Lexeme)) → step ts ≡ o → ([], ts) ≡ with_step ts o (many step m)
      go None e = refl
      go (Some x) e = absurd (omega (arith, shrinks ts x.0 x.1 e))
  many_same (suc n) zero ts h k = go (step ts) refl
    where
      go : (o : Option (C × List Lexeme)) → step ts ≡ o → with_step ts o (many step n) ≡ ([], ts)
      go None e = refl
      go (Some x) e = absurd (omega (arith, shrinks ts x.0 x.1 e))
  many_same (suc n) (suc m) ts h k = go (λ r. many_same n m r) (step ts) refl
    where
      go : ((r : List Lexeme) → length r ≤ n → length r ≤ m → many step n r ≡ many step m r) → (o : Option (C × List Lexeme)) → step ts ≡ o → with_step ts o (many step n) ≡ with_step ts o (many step m)
      go ih None e = refl
      go ih (Some x) e = ap (λ (z : List C × List Lexeme). (x.0 ∷ z.0, z.1)) (ih x.1 (omega (arith, shrinks ts x.0 x.1 e)) (omega (arith, shrinks ts x.0 x.1 e)))

  -- a step begins with a lexeme of h, and neither the first item nor a step goes on with one, but with one of g
  module _ (g h : Lexeme → Bool) (opens : (ts : List Lexeme) (x : C × List Lexeme) → step ts ≡ Some x → Goes h ts) where
    -- after the last step of a derivation
    pub many_end : (n : ℕ) (s : List Lexeme) → FoundSteps (many step n s) (λ t. g t || h t) [] s
    unfolding many
    many_end zero s = exact_steps refl
    many_end (suc n) s = go (step s) refl
      where
        go : (o : Option (C × List Lexeme)) → step s ≡ o → FoundSteps (with_step s o (many step n)) (λ t. g t || h t) [] s
        go None e = exact_steps refl
        go (Some x) e = longer_steps (x.0 ∷ (many step n x.1).0) (many step n x.1).1 refl (omega (arith, many_shrink n x.1, shrinks s x.0 x.1 e)) (Goes-right g h s (opens s x e))

    stepped : (n : ℕ) (ts : List Lexeme) (x : C) (b : List Lexeme) → step ts ≡ Some (x, b) → many step (suc n) ts ≡ (x ∷ (many step n b).0, (many step n b).1)
    unfolding many
    stepped n ts x b e = rw e refl

    -- a step that others follow
    pub many_more : (n : ℕ) (ts : List Lexeme) (x : C) (b : List Lexeme) (ys : List C) (s : List Lexeme) → step ts ≡ Some (x, b)
        → FoundSteps (many step n b) (λ t. g t || h t) ys s → FoundSteps (many step (suc n) ts) (λ t. g t || h t) (x ∷ ys) s
    many_more n ts x b ys s e (exact_steps q) = exact_steps (stepped n ts x b e ∙ ap (λ (z : List C × List Lexeme). (x ∷ z.0, z.1)) q)
    many_more n ts x b ys s e (longer_steps xs r q l i) = longer_steps (x ∷ xs) r (stepped n ts x b e ∙ ap (λ (z : List C × List Lexeme). (x ∷ z.0, z.1)) q) l i

    -- the last step
    pub many_last : (n : ℕ) (ts : List Lexeme) (y : C) (s : List Lexeme) → Found (step ts) g y s → FoundSteps (many step (suc n) ts) (λ t. g t || h t) (y ∷ []) s
    many_last n ts y s (exact e) = many_more n ts y s [] s e (many_end n s)
    many_last n ts y s (longer x r e l i) =
        longer_steps (x ∷ (many step n r).0) (many step n r).1 (stepped n ts x r e) (omega (arith, many_shrink n r)) (Goes-left g h s i)

    module _ {A B : Type 0} (item : Reader A) (build : A → List C → B) where
      sequenced : (ts : List Lexeme) (x : A) (m : List Lexeme) → item ts ≡ Some (x, m) → sequence item step build ts ≡ Some (build x (many step (length m) m).0, (many step (length m) m).1)
      unfolding sequence
      sequenced ts x m e = rw e refl

      -- an item that nothing follows
      pub sequence_one : (ts : List Lexeme) (y : A) (s : List Lexeme) → Found (item ts) g y s → Found (sequence item step build ts) (λ t. g t || h t) (build y []) s
      sequence_one ts y s (exact e) = go (many_end (length s) s)
        where
          go : FoundSteps (many step (length s) s) (λ t. g t || h t) [] s → Found (sequence item step build ts) (λ t. g t || h t) (build y []) s
          go (exact_steps q) = exact (sequenced ts y s e ∙ ap (λ (z : List C × List Lexeme). Some (build y z.0, z.1)) q)
          go (longer_steps xs r q l i) = longer (build y xs) r (sequenced ts y s e ∙ ap (λ (z : List C × List Lexeme). Some (build y z.0, z.1)) q) l i
      sequence_one ts y s (longer x r e l i) =
          longer (build x (many step (length r) r).0) (many step (length r) r).1 (sequenced ts x r e) (omega (arith, many_shrink (length r) r)) (Goes-left g h s i)

      -- an item that steps follow
      pub sequence_many : (ts : List Lexeme) (x : A) (m : List Lexeme) (ys : List C) (s : List Lexeme) → item ts ≡ Some (x, m)
          → FoundSteps (many step (length m) m) (λ t. g t || h t) ys s → Found (sequence item step build ts) (λ t. g t || h t) (build x ys) s
      sequence_many ts x m ys s e (exact_steps q) = exact (sequenced ts x m e ∙ ap (λ (z : List C × List Lexeme). Some (build x z.0, z.1)) q)
      sequence_many ts x m ys s e (longer_steps xs r q l i) = longer (build x xs) r (sequenced ts x m e ∙ ap (λ (z : List C × List Lexeme). Some (build x z.0, z.1)) q) l i

-- what stands where a prefix was read
abbrev pub PrefixRead : {A O : Type 0} → (Lexeme → Option O) → (O → A → A) → Reader A → List Lexeme → A → List Lexeme → Type 0
PrefixRead {A} {O} op build item ts x r = (item ts ≡ Some (x, r)) ⊎ ((t : Lexeme) × (a : List Lexeme) × (o : O) × (y : A) × (ts ≡ t ∷ a) × (op t ≡ Some o) × (item a ≡ Some (y, r)) × (x ≡ build o y))

-- what stands where an ending was read
abbrev pub SuffixRead : {A C : Type 0} → Reader C → (A → C → A) → Reader A → List Lexeme → A → List Lexeme → Type 0
SuffixRead {A} {C} ending build item ts x r = (item ts ≡ Some (x, r)) ⊎ ((y : A) × (m : List Lexeme) × (c : C) × (item ts ≡ Some (y, m)) × (ending m ≡ Some (c, r)) × (x ≡ build y c))

-- [operator] item
module _ {A O : Type 0} (op : Lexeme → Option O) (build : O → A → A) (item : Reader A) (g : Lexeme → Bool) where
  pub prefix_some : (t : Lexeme) (ts : List Lexeme) (o : O) (y : A) (s : List Lexeme) → op t ≡ Some o → Found (item ts) g y s → Found (prefix op build item (t ∷ ts)) g (build o y) s
  unfolding prefix
  prefix_some t ts o y s p (exact e) = exact (rw (p, e) refl)
  prefix_some t ts o y s p (longer x r e l h) = longer (build o x) r (rw (p, e) refl) l h

  -- an item does not begin with an operator
  pub prefix_none : ((t : Lexeme) (ts : List Lexeme) (o : O) → op t ≡ Some o → item (t ∷ ts) ≡ None) → (ts : List Lexeme) (y : A) (s : List Lexeme) → Found (item ts) g y s → Found (prefix op build item ts) g y s
  unfolding prefix
  prefix_none refuses [] y s h = h
  prefix_none refuses (t ∷ ts) y s h = go (op t) refl
    where
      no : (o : O) → op t ≡ Some o → Found (item (t ∷ ts)) g y s → ⊥
      no o e (exact q) = let r = refuses t ts o e in cc
      no o e (longer x r q l k) = let r' = refuses t ts o e in cc

      go : (o : Option O) → op t ≡ o → Found (prefixed build item (t ∷ ts) (o >>= before ts)) g y s
      go None e = h
      go (Some o) e = absurd (no o e h)

  pub prefix_split : (ts : List Lexeme) (x : A) (r : List Lexeme) → prefix op build item ts ≡ Some (x, r) → PrefixRead op build item ts x r
  unfolding prefix
  prefix_split [] x r e = inl e
  prefix_split (t ∷ ts) x r e = go (op t) refl e
    where
      go : (o : Option O) → op t ≡ o → prefixed build item (t ∷ ts) (o >>= before ts) ≡ Some (x, r) → PrefixRead op build item (t ∷ ts) x r
      go None p e = inl e
      go (Some o) p e =
          let b = bind_some (item ts) (λ y. Some (build o y.0, y.1)) (x, r) e in
          let q = some_is (build o b.0.0, b.0.1) (x, r) b.2 in
          inr (t, ts, o, b.0.0, refl, p, b.1 ∙ ap (λ (z : A × List Lexeme). Some (b.0.0, z.1)) q, sym (ap (λ (z : A × List Lexeme). z.0) q))

-- item [ending]: an ending begins with a lexeme of h, and goes on with one of k
module _ {A C : Type 0} (ending : Reader C) (build : A → C → A) (item : Reader A) (g h k : Lexeme → Bool)
    (shrinks : Shrinks ending) (opens : (ts : List Lexeme) (x : C × List Lexeme) → ending ts ≡ Some x → Goes h ts) where
  suffixed : (ts : List Lexeme) (x : A) (m : List Lexeme) → item ts ≡ Some (x, m) → suffix ending build item ts ≡ Some (with_ending build x m (ending m))
  unfolding suffix
  suffixed ts x m e = rw e refl

  pub suffix_some : (ts : List Lexeme) (x : A) (m : List Lexeme) (c : C) (s : List Lexeme) → item ts ≡ Some (x, m) → Found (ending m) k c s → Found (suffix ending build item ts) (λ t. (g t || h t) || k t) (build x c) s
  suffix_some ts x m c s e (exact p) = exact (suffixed ts x m e ∙ rw p refl)
  suffix_some ts x m c s e (longer d r p l i) = longer (build x d) r (suffixed ts x m e ∙ rw p refl) l (Goes-right (λ t. g t || h t) k s i)

  pub suffix_none : (ts : List Lexeme) (y : A) (s : List Lexeme) → Found (item ts) g y s → Found (suffix ending build item ts) (λ t. (g t || h t) || k t) y s
  suffix_none ts y s (exact e) = go (ending s) refl
    where
      go : (o : Option (C × List Lexeme)) → ending s ≡ o → Found (suffix ending build item ts) (λ t. (g t || h t) || k t) y s
      go None p = exact (suffixed ts y s e ∙ rw p refl)
      go (Some x) p = longer (build y x.0) x.1 (suffixed ts y s e ∙ rw p refl) (shrinks s x.0 x.1 p) (Goes-left (λ t. g t || h t) k s (Goes-right g h s (opens s x p)))
  suffix_none ts y s (longer x r e l i) = go (ending r) refl
    where
      go : (o : Option (C × List Lexeme)) → ending r ≡ o → Found (suffix ending build item ts) (λ t. (g t || h t) || k t) y s
      go None p = longer x r (suffixed ts x r e ∙ rw p refl) l (Goes-left (λ t. g t || h t) k s (Goes-left g h s i))
      go (Some z) p = longer (build x z.0) z.1 (suffixed ts x r e ∙ rw p refl) (omega (arith, shrinks r z.0 z.1 p)) (Goes-left (λ t. g t || h t) k s (Goes-left g h s i))

  pub suffix_split : (ts : List Lexeme) (x : A) (r : List Lexeme) → suffix ending build item ts ≡ Some (x, r) → SuffixRead ending build item ts x r
  unfolding suffix
  suffix_split ts x r e =
      let a = bind_some (item ts) (λ y. Some (with_ending build y.0 y.1 (ending y.1))) (x, r) e in
      go a.0.0 a.0.1 a.1 (ending a.0.1) refl (some_is (with_ending build a.0.0 a.0.1 (ending a.0.1)) (x, r) a.2)
    where
      go : (y : A) (m : List Lexeme) → item ts ≡ Some (y, m) → (o : Option (C × List Lexeme)) → ending m ≡ o → with_ending build y m o ≡ (x, r) → SuffixRead ending build item ts x r
      go y m p None q e = inl (p ∙ ap (λ (z : A × List Lexeme). Some z) e)
      go y m p (Some z) q e = inr (y, m, z.0, p, q ∙ ap (λ (w : A × List Lexeme). Some (z.0, w.1)) e, sym (ap (λ (w : A × List Lexeme). w.0) e))

-- an operator and an item
pub record StepIs {A O C : Type 0} (op : Lexeme → Option O) (P : A → List Lexeme → List Lexeme → Type 0) (make : O → A → C) (c : C) (ts r : List Lexeme) : Type 0 where
  pub token : Lexeme
  pub behind : List Lexeme
  pub operator : O
  pub item : A
  pub made : make operator item ≡ c
  pub is_operator : op token ≡ Some operator
  pub whole : ts ≡ token ∷ behind
  pub derived : P item behind r

module _ {A O C : Type 0} (op : Lexeme → Option O) (item : Reader A) (make : O → A → C) where
  pub step_goes : (ts : List Lexeme) (x : C × List Lexeme) → step op item make ts ≡ Some x → Goes (λ t. is_there (op t)) ts
  step_goes [] x e = absurd cc
  step_goes (t ∷ ts) x e = let a = bind_some (op t) (λ o. item ts >>= λ y. Some (make o y.0, y.1)) x e in ap is_there a.1

  pub step_sound : (P : A → List Lexeme → List Lexeme → Type 0) → Sound P item → Sound (StepIs op P make) (step op item make)
  step_sound P sound [] c r e = absurd cc
  step_sound P sound (t ∷ ts) c r e =
      let a = bind_some (op t) (λ o. item ts >>= λ y. Some (make o y.0, y.1)) (c, r) e in
      let b = bind_some (item ts) (λ y. Some (make a.0 y.0, y.1)) (c, r) a.2 in
      let same = some_is (make a.0 b.0.0, b.0.1) (c, r) b.2 in
      record {
        token = t;
        behind = ts;
        operator = a.0;
        item = b.0.0;
        made = ap (λ (z : C × List Lexeme). z.0) same;
        is_operator = a.1;
        whole = refl;
        derived = subst (λ z. P b.0.0 ts z) (ap (λ (z : C × List Lexeme). z.1) same) (sound ts b.0.0 b.0.1 b.1);
      }

  pub step_complete : (n : ℕ) (P : A → List Lexeme → List Lexeme → Type 0) (g : Lexeme → Bool) → Complete n P g item → Complete n (StepIs op P make) g (step op item make)
  step_complete n P g complete c ts s le h =
      go (complete h.item h.behind s (omega (arith, ap length h.whole)) h.derived)
    where
      one : (x : A) (r : List Lexeme) → item h.behind ≡ Some (x, r) → step op item make ts ≡ Some (make h.operator x, r)
      one x r e = ap (λ z. step op item make z) h.whole ∙ rw (h.is_operator, e) refl

      go : Found (item h.behind) g h.item s → Found (step op item make ts) g c s
      go (exact e) = exact (one h.item s e ∙ ap (λ z. Some (z, s)) h.made)
      go (longer x r e l i) = longer (make h.operator x) r (one x r e) l i

  pub step_shrinks : Shrinks item → Shrinks (step op item make)
  step_shrinks shrinks ts c r e =
      let h = step_sound (λ x ts r. length r < length ts) (λ ts x r e. shrinks ts x r e) ts c r e in
      omega (arith, h.derived, ap length h.whole)

-- a step by its parts
pub step_is : {A O C : Type 0} (op : Lexeme → Option O) (item : Reader A) (make : O → A → C) (ts : List Lexeme) → step op item make ts ≡ (op_at op ts >>= λ a. item a.1 >>= λ x. Some (make a.0 x.0, x.1))
step_is op item make [] = refl
step_is {A} {O} {C} op item make (t ∷ ts) = go (op t)
  where
    go : (o : Option O) → ◌≡◌ {A = Option (C × List Lexeme)} (o >>= λ o. item ts >>= λ x. Some (make o x.0, x.1)) ((o >>= before ts) >>= λ a. item a.1 >>= λ x. Some (make a.0 x.0, x.1))
    go None = refl
    go (Some o) = refl

module _ {A O C : Type 0} (op : Lexeme → Option O) (item : Reader A) (make : O → A → C) (ts : List Lexeme) where
  pub no_operator : op_at op ts ≡ None → step op item make ts ≡ None
  no_operator p = step_is op item make ts ∙ rw p refl

  pub no_operand : (o : O) (a : List Lexeme) → op_at op ts ≡ Some (o, a) → item a ≡ None → step op item make ts ≡ None
  no_operand o a p e = step_is op item make ts ∙ rw (p, e) refl

  pub one_step : (o : O) (a : List Lexeme) (x : A) (r : List Lexeme) → op_at op ts ≡ Some (o, a) → item a ≡ Some (x, r) → step op item make ts ≡ Some (make o x, r)
  one_step o a x r p e = step_is op item make ts ∙ rw (p, e) refl
