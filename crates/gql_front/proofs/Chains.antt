-- An item and steps give the longest front. L cs ts r: ts is a front that derives the steps cs, and then r.
use Rattle.std.proofs.Common.{◌≡◌, ℕ, zero, suc, ◌<◌, ◌≤◌, Bool, true, ◌||◌, List, [], ◌∷◌, length, Option, Some, None, refl, sym, ap, subst, ◌∙◌, arith}
use Rattle.gql_lexer.specs.declared.lexeme.Lexeme.{Lexeme}
use Rattle.gql_front.specs.Reading.{Reader, step, with_step, many, sequence, one_or}
use Rattle.gql_front.proofs.Found.{Goes, Found, FoundSteps, Sound, Complete, Shrinks, some_is, bind_some, exact_at, many_end, many_more, many_last, sequence_one, sequence_many, StepIs}

-- what derives has a lexeme at least
abbrev pub Consumes : {A : Type 0} → (A → List Lexeme → List Lexeme → Type 0) → Type 0
Consumes {A} P = (x : A) (ts r : List Lexeme) → P x ts r → length r < length ts

-- what is read begins so
abbrev pub Opens : {C : Type 0} → (Lexeme → Bool) → Reader C → Type 0
Opens {C} h step = (ts : List Lexeme) (x : C × List Lexeme) → step ts ≡ Some x → Goes h ts

-- what derives begins with nothing that g goes on with
abbrev pub Apart : {C : Type 0} → (Lexeme → Bool) → (C → List Lexeme → List Lexeme → Type 0) → Type 0
Apart {C} g Q = (c : C) (ts r : List Lexeme) → Q c ts r → Goes g ts → ⊥

-- L is {Q}*
pub record Many {C : Type 0} (Q : C → List Lexeme → List Lexeme → Type 0) (L : List C → List Lexeme → List Lexeme → Type 0) : Type 0 where
  pub none : (r : List Lexeme) → L [] r r
  pub is_none : (ts r : List Lexeme) → L [] ts r → ts ≡ r
  pub more : (c : C) (cs : List C) (ts m r : List Lexeme) → Q c ts m → L cs m r → L (c ∷ cs) ts r
  pub is_more : (c : C) (cs : List C) (ts r : List Lexeme) → L (c ∷ cs) ts r → (m : List Lexeme) × Q c ts m × L cs m r

-- operators are apart
pub operators_apart : {A O C : Type 0} (g : Lexeme → Bool) (op : Lexeme → Option O) (P : A → List Lexeme → List Lexeme → Type 0) (make : O → A → C)
    → ((t : Lexeme) (o : O) → op t ≡ Some o → g t ≡ true → ⊥) → Apart g (StepIs op P make)
operators_apart g op P make apart c [] r h i = i
operators_apart g op P make apart c (t ∷ ts) r h i =
    let whole = h.whole in
    let same : t ≡ h.token = cc in
    apart t h.operator (ap op same ∙ h.is_operator) i

module _ {A C B : Type 0} (item : Reader A) (step : Reader C) (build : A → List C → B)
    (P : A → List Lexeme → List Lexeme → Type 0) (Q : C → List Lexeme → List Lexeme → Type 0) (L : List C → List Lexeme → List Lexeme → Type 0)
    (laws : Many Q L) (sound : Sound P item) (step_sound : Sound Q step) where
  pub many_sound : (n : ℕ) (ts : List Lexeme) → L (many step n ts).0 ts (many step n ts).1
  unfolding many
  many_sound zero ts = laws.none ts
  many_sound (suc n) ts = go (λ r. many_sound n r) (step ts) refl
    where
      go : ((r : List Lexeme) → L (many step n r).0 r (many step n r).1) → (o : Option (C × List Lexeme)) → step ts ≡ o → L (with_step ts o (many step n)).0 ts (with_step ts o (many step n)).1
      go ih None e = laws.none ts
      go ih (Some (c, m)) e = laws.more c (many step n m).0 ts m (many step n m).1 (step_sound ts c m e) (ih m)

  -- what was read
  pub record Read (ts : List Lexeme) (x : B) (r : List Lexeme) : Type 0 where
    pub first : A
    pub middle : List Lexeme
    pub others : List C
    pub built : x ≡ build first others
    pub is_first : P first ts middle
    pub are_others : L others middle r

  pub sequence_read : (ts : List Lexeme) (x : B) (r : List Lexeme) → sequence item step build ts ≡ Some (x, r) → Read ts x r
  unfolding sequence
  sequence_read ts x r e =
      let a = bind_some (item ts) (λ y. Some (build y.0 (many step (length y.1) y.1).0, (many step (length y.1) y.1).1)) (x, r) e in
      let same = some_is (build a.0.0 (many step (length a.0.1) a.0.1).0, (many step (length a.0.1) a.0.1).1) (x, r) a.2 in
      record {
        first = a.0.0;
        middle = a.0.1;
        others = (many step (length a.0.1) a.0.1).0;
        built = sym (ap (λ (z : B × List Lexeme). z.0) same);
        is_first = sound ts a.0.0 a.0.1 a.1;
        are_others = subst (λ (z : List Lexeme). L (many step (length a.0.1) a.0.1).0 a.0.1 z) (ap (λ (z : B × List Lexeme). z.1) same) (many_sound (length a.0.1) a.0.1);
      }

  module _ (consumes : Consumes P) (step_consumes : Consumes Q) (n : ℕ) (g h : Lexeme → Bool) (complete : Complete n P g item) (step_complete : Complete n Q g step)
      (apart : Apart g Q) (opens : Opens h step) where
    shrinks : Shrinks step
    shrinks ts c r e = step_consumes c ts r (step_sound ts c r e)

    pub many_found : (cs : List C) (b : ℕ) (ts s : List Lexeme) → length ts ≤ b → length ts ≤ n → L cs ts s → FoundSteps (many step b ts) (λ t. g t || h t) cs s
    many_found [] b ts s le lo l =
        subst (λ z. FoundSteps (many step b z) (λ t. g t || h t) [] s) (sym (laws.is_none ts s l)) (many_end step shrinks g h opens b s)
    many_found (c ∷ cs) zero ts s le lo l = let m = laws.is_more c cs ts s l in absurd (omega (arith, step_consumes c ts m.0 m.1))
    many_found (c ∷ []) (suc b) ts s le lo l =
        let m = laws.is_more c [] ts s l in
        many_last step shrinks g h opens b ts c s (step_complete c ts s lo (subst (λ z. Q c ts z) (laws.is_none m.0 s m.2) m.1))
    many_found (c ∷ d ∷ cs) (suc b) ts s le lo l =
        let m = laws.is_more c (d ∷ cs) ts s l in
        let next = laws.is_more d cs m.0 s m.2 in
        let shorter = step_consumes c ts m.0 m.1 in
        let read = exact_at (step ts) g c m.0 (step_complete c ts m.0 lo m.1) (apart d m.0 next.0 next.1) in
        many_more step shrinks g h opens b ts c m.0 (d ∷ cs) s read (many_found (d ∷ cs) b m.0 s (omega arith) (omega arith) m.2)

    pub sequence_found : (x : A) (cs : List C) (ts m s : List Lexeme) → length ts ≤ n → P x ts m → L cs m s → Found (sequence item step build ts) (λ t. g t || h t) (build x cs) s
    sequence_found x [] ts m s le p l =
        sequence_one step shrinks g h opens item build ts x s (complete x ts s le (subst (λ z. P x ts z) (laws.is_none m s l) p))
    sequence_found x (c ∷ cs) ts m s le p l =
        let shorter = consumes x ts m p in
        let next = laws.is_more c cs m s l in
        let read = exact_at (item ts) g x m (complete x ts m le p) (apart c m next.0 next.1) in
        sequence_many step shrinks g h opens item build ts x m (c ∷ cs) s read (many_found (c ∷ cs) (length m) m s (omega arith) (omega arith) l)

-- a level of a grammar: an item alone, or a node of it and its steps
module _ {A C : Type 0} (item : Reader A) (step : Reader C) (node : A → List C → A)
    (P R : A → List Lexeme → List Lexeme → Type 0) (Q : C → List Lexeme → List Lexeme → Type 0) (L : List C → List Lexeme → List Lexeme → Type 0)
    (laws : Many Q L) (sound : Sound P item) (step_sound : Sound Q step)
    (higher : (x : A) (ts r : List Lexeme) → P x ts r → R x ts r)
    (made : (x : A) (c : C) (cs : List C) (ts m r : List Lexeme) → P x ts m → L (c ∷ cs) m r → R (node x (c ∷ cs)) ts r) where
  pub level_sound : Sound R (sequence item step (one_or node))
  level_sound ts x r e = go (sequence_read item step (one_or node) P Q L laws sound step_sound ts x r e)
    where
      go : Read item step (one_or node) P Q L laws sound step_sound ts x r → R x ts r
      go h = at h.others h.built h.are_others
        where
          at : (cs : List C) → x ≡ one_or node h.first cs → L cs h.middle r → R x ts r
          at [] b o = subst (λ z. R z ts r) (sym b) (subst (λ z. R h.first ts z) (laws.is_none h.middle r o) (higher h.first ts h.middle h.is_first))
          at (c ∷ cs) b o = subst (λ z. R z ts r) (sym b) (made h.first c cs ts h.middle r h.is_first o)
