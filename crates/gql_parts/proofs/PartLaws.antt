-- The parts of productions, as they are derived and as they are read: what is read is derived, and what is derived is read
-- exactly, where no lexeme with which it may go on stands behind it.
use Rattle.std.proofs.Common.{◌≡◌, ◌<◌, ◌≤◌, inl, inr, Bool, true, false, ◌||◌, cond, ℕ, List, [], ◌∷◌, length, Option, Some, None, refl, sym, ap, subst, ◌∙◌, arith}
use Rattle.gql_lexer.specs.declared.lexeme.Lexeme.{Lexeme}
use Rattle.gql_lexer.specs.declared.lexeme.Lexeme.TheVariants as lex
use Rattle.gql_front.specs.Tables.{Begins}
use Rattle.gql_front.specs.Reading.{◌>>=◌, Reader, is_sign, is_word, before, after, op_at, opted, maybe}
use Rattle.gql_front.proofs.Found.{Goes, Goes-left, Goes-right, Found, exact, longer, Sound, Shrinks, is_there, some_is}
use Rattle.gql_front.proofs.LexemeTests.{sign_is, word_is, after_is}
use Rattle.gql_front.proofs.TableLemmas.{begins_read}
use Rattle.gql_parts.specs.Parts.{Passes, MayPass, IsOptional}
use Rattle.gql_parts.specs.Machinery.PartReaders.{led, behind_or, past}

-- the next lexeme is none to go on with
abbrev pub Stops : (Lexeme → Bool) → List Lexeme → Type 0
Stops g s = Goes g s → ⊥

-- no lexeme is in both
abbrev pub Apart : (Lexeme → Bool) → (Lexeme → Bool) → Type 0
Apart test g = (t : Lexeme) → test t ≡ true → g t ≡ true → ⊥

pub left_stops : (g h : Lexeme → Bool) (s : List Lexeme) → Stops (λ t. g t || h t) s → Stops g s
left_stops g h s stop i = stop (Goes-left g h s i)

pub right_stops : (g h : Lexeme → Bool) (s : List Lexeme) → Stops (λ t. g t || h t) s → Stops h s
right_stops g h s stop i = stop (Goes-right g h s i)

-- no lexeme
abbrev pub nothing : Lexeme → Bool
nothing t = false

pub nothing_stops : (s : List Lexeme) → Stops nothing s
nothing_stops [] i = i
nothing_stops (t ∷ ts) i = let j : false ≡ true = i in cc

-- Steps of a reader

pub bind_then : {A B R : Type 0} (o : Option A) (f : A → Option B) (y : B) → (o >>= f) ≡ Some y → ((x : A) → o ≡ Some x → f x ≡ Some y → R) → R
bind_then None f y e k = absurd cc
bind_then (Some x) f y e k = k x refl e

pub finish : {B : Type 0} (R : B → List Lexeme → Type 0) (b : B) (m : List Lexeme) (y : B) (r : List Lexeme) → ◌≡◌ {A = Option (B × List Lexeme)} (Some (b, m)) (Some (y, r)) → R b m → R y r
finish {B} R b m y r e h = subst (λ (z : B × List Lexeme). R z.0 z.1) (some_is (b, m) (y, r) e) h

-- One lexeme

pub passes_after : (test : Lexeme → Bool) (ts r : List Lexeme) → Passes test ts r → after test ts ≡ Some r
passes_after test ts r h = ap (after test) h.2 ∙ ap (λ b. cond b (Some r) None) h.1

pub after_passes : (test : Lexeme → Bool) (ts r : List Lexeme) → after test ts ≡ Some r → Passes test ts r
after_passes test ts r e = let h = after_is test ts r e in (h.0, h.2, h.1)

pub passes_goes : (test : Lexeme → Bool) (ts r : List Lexeme) → Passes test ts r → Goes test ts
passes_goes test ts r h = subst (λ z. Goes test z) (sym h.2) h.1

pub passes_shorter : (test : Lexeme → Bool) (ts r : List Lexeme) → Passes test ts r → length r < length ts
passes_shorter test ts r h = omega (arith, ap length h.2)

pub may_pass_shorter : (test : Lexeme → Bool) (ts r : List Lexeme) → MayPass test ts r → length r ≤ length ts
may_pass_shorter test ts r (inl h) = omega (arith, ap length h)
may_pass_shorter test ts r (inr h) = omega (arith, ap length h.2)

pub stops_after : (test : Lexeme → Bool) (ts : List Lexeme) → Stops test ts → after test ts ≡ None
stops_after test [] stop = refl
stops_after test (t ∷ ts) stop = go (test t) refl
  where
    go : (b : Bool) → test t ≡ b → cond b (Some ts) None ≡ None
    go true e = absurd (stop e)
    go false e = refl

pub stops_op : {A : Type 0} (says : Lexeme → Option A) (ts : List Lexeme) → Stops (λ t. is_there (says t)) ts → op_at says ts ≡ None
stops_op says [] stop = refl
stops_op {A} says (t ∷ ts) stop = go (says t) refl
  where
    go : (o : Option A) → says t ≡ o → (o >>= before ts) ≡ None
    go None e = refl
    go (Some x) e = absurd (stop (ap is_there e))

pub either_apart : (test other g : Lexeme → Bool) → Apart test g → Apart other g → Apart (λ t. test t || other t) g
either_apart test other g apart others t p h = go (test t) refl p
  where
    go : (b : Bool) → test t ≡ b → (b || other t) ≡ true → ⊥
    go true e q = apart t e h
    go false e q = others t q h

pub word_apart : (place : ℕ) (g : Lexeme → Bool) → ((x : List ℕ) → g (lex.Word place x) ≡ false) → Apart (is_word place) g
word_apart place g none t p h = let w = word_is place t p in let q = ap g w.1 in let f = none w.0 in cc

pub sign_apart : (place : ℕ) (g : Lexeme → Bool) → g (lex.Sign place) ≡ false → Apart (is_sign place) g
sign_apart place g none t p h = let q = ap g (sign_is place t p) in cc

pub says_no_sign : {A : Type 0} (says : Lexeme → Option A) (place : ℕ) → says (lex.Sign place) ≡ None → (t : Lexeme) (x : A) → says t ≡ Some x → is_sign place t ≡ true → ⊥
says_no_sign says place none t x e i = let q = sym none ∙ ap says (sym (sign_is place t i)) ∙ e in cc

pub passes_stops : (test g : Lexeme → Bool) → Apart test g → (m r : List Lexeme) → Passes test m r → Stops g m
passes_stops test g apart m r h = subst (λ z. Stops g z) (sym h.2) (apart h.0 h.1)

pub begins_stops : {A : Type 0} (says : Lexeme → Option A) (g : Lexeme → Bool) → ((t : Lexeme) (a : A) → says t ≡ Some a → g t ≡ true → ⊥)
    → (a : A) (m r : List Lexeme) → Begins says a m r → Stops g m
begins_stops says g apart a m r h = subst (λ z. Stops g z) (sym h.2) (apart h.0 a h.1)

-- a lexeme that may be missing, and says nothing
pub may_pass_stops : (test g : Lexeme → Bool) → Apart test g → (ts s : List Lexeme) → MayPass test ts s → Stops g s → Stops g ts
may_pass_stops test g apart ts s (inl h) stop = subst (λ z. Stops g z) (sym h) stop
may_pass_stops test g apart ts s (inr h) stop = passes_stops test g apart ts s h

-- An optional part

pub optional_stops : {A : Type 0} (P : A → List Lexeme → List Lexeme → Type 0) (g : Lexeme → Bool) (o : Option A) (m s : List Lexeme)
    → ((x : A) → P x m s → Stops g m) → IsOptional P o m s → Stops g s → Stops g m
optional_stops P g None m s starts h stop = subst (λ z. Stops g z) (sym h) stop
optional_stops P g (Some x) m s starts h stop = starts x h

pub optional_shorter : {A : Type 0} (P : A → List Lexeme → List Lexeme → Type 0) → ((x : A) (ts r : List Lexeme) → P x ts r → length r < length ts)
    → (o : Option A) (ts r : List Lexeme) → IsOptional P o ts r → length r ≤ length ts
optional_shorter P shorter None ts r h = omega (arith, ap length h)
optional_shorter P shorter (Some x) ts r h = omega (arith, shorter x ts r h)

-- an item that is read where it is there
module _ {A : Type 0} (item : Reader A) (P : A → List Lexeme → List Lexeme → Type 0) where
  pub opted_sound : Sound P item → (ts : List Lexeme) → IsOptional P (opted ts (item ts)).0 ts (opted ts (item ts)).1
  opted_sound sound ts = go (item ts) refl
    where
      go : (o : Option (A × List Lexeme)) → item ts ≡ o → IsOptional P (opted ts o).0 ts (opted ts o).1
      go None e = refl
      go (Some x) e = sound ts x.0 x.1 e

  pub maybe_sound : Sound P item → Sound (IsOptional P) (maybe item)
  unfolding maybe
  maybe_sound sound ts y r e = finish (λ y r. IsOptional P y ts r) (opted ts (item ts)).0 (opted ts (item ts)).1 y r e (opted_sound sound ts)

  pub opted_exact : (o : Option A) (ts s : List Lexeme) → ((x : A) → P x ts s → item ts ≡ Some (x, s)) → item s ≡ None → IsOptional P o ts s → opted ts (item ts) ≡ (o, s)
  opted_exact None ts s reads none h = subst (λ z. opted z (item z) ≡ (None, s)) (sym h) (ap (opted s) none)
  opted_exact (Some x) ts s reads none h = ap (opted ts) (reads x h)

  -- what is derived is read, or more is: behind an item that is there stands what it goes on with, g, and behind one that is
  -- missing what it begins with, h
  module _ (g h : Lexeme → Bool) (shrinks : Shrinks item) (begins : (ts : List Lexeme) (x : A) (r : List Lexeme) → item ts ≡ Some (x, r) → Goes h ts) where
    none_found : (ts : List Lexeme) → Found (Some (opted ts (item ts))) (λ t. g t || h t) None ts
    none_found ts = go (item ts) refl
      where
        go : (o : Option (A × List Lexeme)) → item ts ≡ o → Found (Some (opted ts o)) (λ t. g t || h t) None ts
        go None e = exact refl
        go (Some x) e = longer (Some x.0) x.1 refl (shrinks ts x.0 x.1 e) (Goes-right g h ts (begins ts x.0 x.1 e))

    some_found : (x : A) (ts s : List Lexeme) → Found (item ts) g x s → Found (Some (opted ts (item ts))) (λ t. g t || h t) (Some x) s
    some_found x ts s (exact e) = exact (ap (λ (o : Option (A × List Lexeme)). Some (opted ts o)) e)
    some_found x ts s (longer y r e l i) = longer (Some y) r (ap (λ (o : Option (A × List Lexeme)). Some (opted ts o)) e) l (Goes-left g h s i)

    pub opted_found : (o : Option A) (ts s : List Lexeme) → ((x : A) → P x ts s → Found (item ts) g x s) → IsOptional P o ts s
        → Found (Some (opted ts (item ts))) (λ t. g t || h t) o s
    opted_found None ts s found k = subst (λ z. Found (Some (opted ts (item ts))) (λ t. g t || h t) None z) k (none_found ts)
    opted_found (Some x) ts s found k = some_found x ts s (found x k)

-- a lexeme that says something, or nothing
pub said_exact : {A : Type 0} (says : Lexeme → Option A) (o : Option A) (ts s : List Lexeme) → IsOptional (Begins says) o ts s → Stops (λ t. is_there (says t)) s
    → opted ts (op_at says ts) ≡ (o, s)
said_exact says o ts s h stop = opted_exact (op_at says) (Begins says) o ts s (λ x k. begins_read says x ts s k) (stops_op says s stop) h

-- there is always an answer where nothing may be derived of no lexemes
pub always_given : {A : Type 0} (res : Option (A × List Lexeme)) (g : Lexeme → Bool) (y : A) (ts : List Lexeme) → Found res g y ts
    → (z : A × List Lexeme) × (res ≡ Some z) × (length z.1 ≤ length ts)
always_given res g y ts (exact e) = ((y, ts), e, omega arith)
always_given res g y ts (longer x r e l i) = ((x, r), e, omega arith)

-- what a lexeme announces
abbrev pub Led : {A : Type 0} → (Lexeme → Bool) → (A → List Lexeme → List Lexeme → Type 0) → A → List Lexeme → List Lexeme → Type 0
Led test Q x ts r = (a : List Lexeme) × Passes test ts a × Q x a r

-- P is Q behind such a lexeme
module _ {A : Type 0} (test : Lexeme → Bool) (item : Reader A) (P Q : A → List Lexeme → List Lexeme → Type 0)
    (back : (x : A) (ts r : List Lexeme) → Led test Q x ts r → P x ts r) (forth : (x : A) (ts r : List Lexeme) → P x ts r → Led test Q x ts r) where
  abbrev announced : Reader A
  announced ts = after test ts >>= item

  announced_is : (ts a : List Lexeme) → Passes test ts a → announced ts ≡ item a
  announced_is ts a h = ap (λ (o : Option (List Lexeme)). o >>= item) (passes_after test ts a h)

  announced_sound : Sound Q item → Sound P announced
  announced_sound sound ts x r e = bind_then (after test ts) item (x, r) e (λ a p k. back x ts r (a, after_passes test ts a p, sound a x r k))

  pub led_sound : Sound Q item → Sound (IsOptional P) (led test item)
  led_sound sound ts y r e = finish (λ y r. IsOptional P y ts r) (opted ts (announced ts)).0 (opted ts (announced ts)).1 y r e (opted_sound announced P (announced_sound sound) ts)

  pub led_exact : (o : Option A) (ts s : List Lexeme) → ((x : A) (a : List Lexeme) → Q x a s → item a ≡ Some (x, s)) → IsOptional P o ts s → Stops test s
      → led test item ts ≡ Some (o, s)
  led_exact o ts s reads h stop =
      ap Some
      (opted_exact announced P o ts s (λ x k. let l = forth x ts s k in announced_is ts l.0 l.1 ∙ reads x l.0 l.2)
      (ap (λ (o : Option (List Lexeme)). o >>= item) (stops_after test s stop)) h)

  announced_goes : (ts : List Lexeme) (x : A) (r : List Lexeme) → announced ts ≡ Some (x, r) → Goes test ts
  announced_goes ts x r e = bind_then (after test ts) item (x, r) e (λ a p k. passes_goes test ts a (after_passes test ts a p))

  announced_shrinks : Shrinks item → Shrinks announced
  announced_shrinks shrinks ts x r e =
      bind_then (after test ts) item (x, r) e (λ a p k. omega (arith, shrinks a x r k, passes_shorter test ts a (after_passes test ts a p)))

  -- what is derived is read, or more is: behind a part that is there stands what its item goes on with, g, and behind one
  -- that is missing the lexeme that announces it
  pub led_found : (g : Lexeme → Bool) → Shrinks item → (o : Option A) (ts s : List Lexeme) → ((x : A) (a : List Lexeme) → Q x a s → Found (item a) g x s) → IsOptional P o ts s
      → Found (led test item ts) (λ t. g t || test t) o s
  led_found g shrinks o ts s found h =
      opted_found announced P g test (announced_shrinks shrinks) announced_goes o ts s
      (λ x k. let l = forth x ts s k in subst (λ (z : Option (A × List Lexeme)). Found z g x s) (sym (announced_is ts l.0 l.1)) (found x l.0 l.2)) h

  pub led_stops : (g : Lexeme → Bool) → Apart test g → (o : Option A) (m s : List Lexeme) → IsOptional P o m s → Stops g s → Stops g m
  led_stops g apart o m s h stop = optional_stops P g o m s (λ x k. let l = forth x m s k in passes_stops test g apart m l.0 l.1) h stop

-- a lexeme that may be missing
pub past_sound : (test : Lexeme → Bool) (ts : List Lexeme) → MayPass test ts (past test ts)
past_sound test ts = go (after test ts) refl
  where
    go : (o : Option (List Lexeme)) → after test ts ≡ o → MayPass test ts (behind_or ts o)
    go None e = inl refl
    go (Some a) e = inr (after_passes test ts a e)

pub past_exact : (test : Lexeme → Bool) (ts a : List Lexeme) → MayPass test ts a → Stops test a → past test ts ≡ a
past_exact test ts a (inl h) stop = subst (λ z. past test z ≡ a) (sym h) (ap (behind_or a) (stops_after test a stop))
past_exact test ts a (inr h) stop = ap (behind_or ts) (passes_after test ts a h)
