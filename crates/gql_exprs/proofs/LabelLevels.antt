-- Reading a label expression is sound and complete, level by level from the base up. What stands between brackets is read
-- by some f that is sound and complete on fewer lexemes; at the end the knot is tied: reading is f itself.
use Rattle.std.proofs.Common.{◌≡◌, ℕ, zero, suc, ◌<◌, ◌≤◌, inl, inr, Bool, true, false, ◌||◌, cond, nat_eq, eqb-true, List, [], ◌∷◌, length, Some, None, refl, sym, ap, subst, ◌∙◌, arith}
use Rattle.gql_lexer.specs.declared.lexeme.Lexeme.{Lexeme}
use Rattle.gql_lexer.specs.declared.lexeme.Lexeme.TheVariants.{Word, Name, Chars, Number, Param, Sign}
use Rattle.gql_lexer.specs.SymbolPlaces.{opening, closing, percent, ampersand, bar, bang}
use Rattle.gql_front.specs.Longest.{Longest}
use Rattle.gql_front.specs.Reading.{◌>>=◌, Reader, is_sign, any_name_in, after, step, sequence, prefix, one_or}
use Rattle.gql_front.proofs.Found.{Found, exact, Sound, Complete, some_is, bind_some, exact_at, is_there, PrefixRead, prefix_some, prefix_none, prefix_split, StepIs, step_goes, step_sound, step_complete}
use Rattle.gql_front.proofs.LexemeTests.{after_sign, sign_is, cond_some_is}
use Rattle.gql_front.proofs.Chains.{Consumes, Many, operators_apart, sequence_found, level_sound}
use Rattle.gql_front.proofs.Agree.{agree, is_longest}
use Rattle.gql_ast.specs.Label.{Label, Labels, labels_listed, items_of_labels, name, wildcard, paren, negation, conjunction, disjunction, no_labels, more_labels}
use Rattle.gql_exprs.specs.LabelGrammar.{at_base, at_factor, at_term, at_expression, label_rank, IsLabel, AreSides}
use Rattle.gql_exprs.specs.Machinery.LabelReaders.{symbol_op, operand, negated, conjoined, disjoined, paren_of, base_of, factor_of, term_of, expression_of, read_to, read_label}

pub labels_listed-items_of_labels : (es : Labels) → labels_listed (items_of_labels es) ≡ es
labels_listed-items_of_labels no_labels = refl
labels_listed-items_of_labels (more_labels e es) = ap (λ z. more_labels e z) (labels_listed-items_of_labels es)

-- what derives takes a lexeme at least
mutual
  pub label_consumes : (x : Label) (ts r : List Lexeme) → IsLabel x ts r → length r < length ts
  label_consumes (name text) ts r h = omega (arith, ap length h.2)
  label_consumes wildcard ts r h = omega (arith, ap length h)
  label_consumes (paren e) ts r h = omega (arith, ap length h.1, label_consumes e h.0 (Sign closing ∷ r) h.2)
  label_consumes (negation e) ts r h = omega (arith, ap length h.2, label_consumes e h.1 r h.3)
  label_consumes (conjunction e es) ts r h = omega (arith, label_consumes e ts h.1 h.2, sides_consume es at_factor ampersand h.1 r h.4)
  label_consumes (disjunction e es) ts r h = omega (arith, label_consumes e ts h.1 h.2, sides_consume es at_term bar h.1 r h.4)

  sides_consume : (es : Labels) (k place : ℕ) (ts r : List Lexeme) → AreSides es k place ts r → length r ≤ length ts
  sides_consume no_labels k place ts r h = omega (arith, ap length h)
  sides_consume (more_labels e es) k place ts r h = omega (arith, ap length h.2, label_consumes e h.0 h.1 h.4, sides_consume es k place h.1 r h.5)

-- a label expression of at most a level
pub record At (k : ℕ) (x : Label) (ts r : List Lexeme) : Type 0 where
  pub ranked : label_rank x ≤ k
  pub derived : IsLabel x ts r

pub at_consumes : (k : ℕ) → Consumes (At k)
at_consumes k x ts r h = label_consumes x ts r h.derived

-- With which lexemes what was derived may go on

abbrev pub goes_base : Lexeme → Bool
goes_base t = false

abbrev pub goes_term : Lexeme → Bool
goes_term t = goes_base t || is_there (symbol_op ampersand t)

abbrev pub goes_label : Lexeme → Bool
goes_label t = goes_term t || is_there (symbol_op bar t)

-- a reader of the label expressions of at most a level, on at most n lexemes
pub record Reads (n k : ℕ) (g : Lexeme → Bool) (p : Reader Label) : Type 0 where
  pub sound : Sound (At k) p
  pub complete : Complete n (At k) g p

-- a reader of all label expressions, on fewer than n lexemes
pub record Inner (n : ℕ) (f : Reader Label) : Type 0 where
  pub sound : Sound IsLabel f
  pub complete : (y : Label) (ts s : List Lexeme) → length ts < n → IsLabel y ts s → Found (f ts) goes_label y s

-- Symbols as operators

symbol_op_is : (place : ℕ) (t : Lexeme) (o : Unit {0}) → symbol_op place t ≡ Some o → t ≡ Sign place
symbol_op_is place t o e = sign_is place t (cond_some_is (is_sign place t) tt o e).0

symbol_op-same : (place : ℕ) → nat_eq place place ≡ true → symbol_op place (Sign place) ≡ Some tt
symbol_op-same place e = rw e refl

not_both : (g : Lexeme → Bool) (place : ℕ) → g (Sign place) ≡ false → (t : Lexeme) (o : Unit {0}) → symbol_op place t ≡ Some o → g t ≡ true → ⊥
not_both g place stop t o e h = let q = ap g (symbol_op_is place t o e) in cc

-- A level of chains, once for both: an item alone, or a node of it and further sides

abbrev SidesAre : ℕ → ℕ → List Label → List Lexeme → List Lexeme → Type 0
SidesAre k place es ts r = AreSides (labels_listed es) k place ts r

abbrev Side : ℕ → ℕ → Label → List Lexeme → List Lexeme → Type 0
Side k place = StepIs (symbol_op place) (At k) operand

sides_are : (k place : ℕ) → nat_eq place place ≡ true → Many (Side k place) (SidesAre k place)
sides_are k place self = record { none = λ r. refl; is_none = λ ts r h. h; more = more; is_more = is_more }
  where
    more : (c : Label) (cs : List Label) (ts m r : List Lexeme) → Side k place c ts m → SidesAre k place cs m r → SidesAre k place (c ∷ cs) ts r
    more c cs ts m r h l =
        subst (λ z. SidesAre k place (z ∷ cs) ts r) h.made
        (h.behind, m, h.whole ∙ ap (λ (u : Lexeme). u ∷ h.behind) (symbol_op_is place h.token h.operator h.is_operator), h.derived.ranked, h.derived.derived, l)

    is_more : (c : Label) (cs : List Label) (ts r : List Lexeme) → SidesAre k place (c ∷ cs) ts r → (m : List Lexeme) × Side k place c ts m × SidesAre k place cs m r
    is_more c cs ts r h =
        (h.1, record { token = Sign place; behind = h.0; operator = tt; item = c; made = refl; is_operator = symbol_op-same place self; whole = h.2; derived = record { ranked = h.3; derived = h.4 } }, h.5)

side_consumes : (k place : ℕ) → Consumes (Side k place)
side_consumes k place c ts r h = omega (arith, ap length h.whole, label_consumes h.item h.behind r h.derived.derived)

module _ (k n place : ℕ) (self : nat_eq place place ≡ true) (g : Lexeme → Bool) (item : Reader Label) (reads : Reads n k g item) (stop : g (Sign place) ≡ false) (node : Label → List Label → Label) where
  chain_found : (e : Label) (es : List Label) (ts m s : List Lexeme) → length ts ≤ n → At k e ts m → SidesAre k place es m s
      → Found (sequence item (step (symbol_op place) item operand) (one_or node) ts) (λ t. g t || is_there (symbol_op place t)) (one_or node e es) s
  chain_found = sequence_found item (step (symbol_op place) item operand) (one_or node) (At k) (Side k place) (SidesAre k place) (sides_are k place self)
      reads.sound (step_sound (symbol_op place) item operand (At k) reads.sound) (at_consumes k) (side_consumes k place) n g (λ t. is_there (symbol_op place t))
      reads.complete (step_complete (symbol_op place) item operand n (At k) g reads.complete) (operators_apart g (symbol_op place) (At k) operand (not_both g place stop)) (step_goes (symbol_op place) item operand)

  chain_sound : (K : ℕ) → k ≤ K → ((e c : Label) (cs : List Label) (ts m r : List Lexeme) → At k e ts m → SidesAre k place (c ∷ cs) m r → At K (node e (c ∷ cs)) ts r)
      → Sound (At K) (sequence item (step (symbol_op place) item operand) (one_or node))
  chain_sound K le made = level_sound item (step (symbol_op place) item operand) node (At k) (At K) (Side k place) (SidesAre k place) (sides_are k place self)
      reads.sound (step_sound (symbol_op place) item operand (At k) reads.sound) (λ x ts r h. record { ranked = omega (arith, h.ranked); derived = h.derived }) made

-- The levels

text_read : (f : Reader Label) (t : Lexeme) (text : List ℕ) (r : List Lexeme) → any_name_in t ≡ Some text → base_of f (t ∷ r) ≡ Some (name text, r)
unfolding base_of
text_read f (Name y) text r e = ap (λ z. Some (name z, r)) (some_is y text e)
text_read f (Word w y) text r e = ap (λ z. Some (name z, r)) (some_is y text e)
text_read f (Sign s) text r e = absurd cc
text_read f (Number y) text r e = absurd cc
text_read f (Chars y) text r e = absurd cc
text_read f (Param y) text r e = absurd cc

module _ (n : ℕ) (f : Reader Label) (inner : Inner n f) where
  paren_sound : (ts : List Lexeme) (x : Label) (r : List Lexeme) → paren_of f ts ≡ Some (x, r) → At at_base x (Sign opening ∷ ts) r
  unfolding paren_of
  paren_sound ts x r e =
      let a = bind_some (f ts) (λ e. after (is_sign closing) e.1 >>= λ r. Some (paren e.0, r)) (x, r) e in
      let b = bind_some (after (is_sign closing) a.0.1) (λ r. Some (paren a.0.0, r)) (x, r) a.2 in
      subst (λ (z : Label × List Lexeme). At at_base z.0 (Sign opening ∷ ts) z.1) (some_is (paren a.0.0, b.0) (x, r) b.2)
      (record { ranked = omega arith; derived = (ts, refl, subst (λ (z : List Lexeme). IsLabel a.0.0 ts z) (after_sign closing a.0.1 b.0 b.1) (inner.sound ts a.0.0 a.0.1 a.1)) })

  base_sound : Sound (At at_base) (base_of f)
  unfolding base_of
  base_sound [] x r e = absurd cc
  base_sound (Name y ∷ ts) x r e =
      subst (λ (z : Label × List Lexeme). At at_base z.0 (Name y ∷ ts) z.1) (some_is (name y, ts) (x, r) e) (record { ranked = omega arith; derived = (Name y, refl, refl) })
  base_sound (Word w y ∷ ts) x r e =
      subst (λ (z : Label × List Lexeme). At at_base z.0 (Word w y ∷ ts) z.1) (some_is (name y, ts) (x, r) e) (record { ranked = omega arith; derived = (Word w y, refl, refl) })
  base_sound (Number y ∷ ts) x r e = absurd cc
  base_sound (Chars y ∷ ts) x r e = absurd cc
  base_sound (Param y ∷ ts) x r e = absurd cc
  base_sound (Sign s ∷ ts) x r e = go (nat_eq s percent) refl (nat_eq s opening) refl e
    where
      go : (b : Bool) → nat_eq s percent ≡ b → (c : Bool) → nat_eq s opening ≡ c → cond b (Some (wildcard, ts)) (cond c (paren_of f ts) None) ≡ Some (x, r) → At at_base x (Sign s ∷ ts) r
      go true p c q e =
          subst (λ (z : Label × List Lexeme). At at_base z.0 (Sign s ∷ ts) z.1) (some_is (wildcard, ts) (x, r) e) (record { ranked = omega arith; derived = ap (λ (z : ℕ). Sign z ∷ ts) (eqb-true s percent p) })
      go false p true q e = subst (λ (z : ℕ). At at_base x (Sign z ∷ ts) r) (sym (eqb-true s opening q)) (paren_sound ts x r e)
      go false p false q e = absurd cc

  base_complete : Complete n (At at_base) goes_base (base_of f)
  unfolding base_of paren_of
  base_complete (name text) ts s le h = let d = h.derived in exact (ap (base_of f) d.2 ∙ text_read f d.0 text s d.1)
  base_complete wildcard ts s le h = exact (ap (base_of f) h.derived)
  base_complete (paren e) ts s le h =
      let d = h.derived in
      let found = inner.complete e d.0 (Sign closing ∷ s) (omega (arith, ap length d.1)) d.2 in
      let read = exact_at (f d.0) goes_label e (Sign closing ∷ s) found (λ i. let j : false ≡ true = i in cc) in
      exact (ap (base_of f) d.1 ∙ rw read refl)
  base_complete (negation e) ts s le h = absurd (omega (arith, h.ranked))
  base_complete (conjunction e es) ts s le h = absurd (omega (arith, h.ranked))
  base_complete (disjunction e es) ts s le h = absurd (omega (arith, h.ranked))

  bang_refused : (t : Lexeme) (ts : List Lexeme) (o : Unit {0}) → symbol_op bang t ≡ Some o → base_of f (t ∷ ts) ≡ None
  unfolding base_of
  bang_refused t ts o e = ap (λ z. base_of f (z ∷ ts)) (symbol_op_is bang t o e)

  pub factor_reads : Reads n at_factor goes_base (factor_of f)
  unfolding factor_of
  factor_reads = record { sound = is_sound; complete = is_complete }
    where
      is_sound : Sound (At at_factor) (factor_of f)
      is_sound ts x r e = go (prefix_split (symbol_op bang) negated (base_of f) goes_base ts x r e)
        where
          go : PrefixRead (symbol_op bang) negated (base_of f) ts x r → At at_factor x ts r
          go (inl p) = let h = base_sound ts x r p in record { ranked = omega (arith, h.ranked); derived = h.derived }
          go (inr p) =
              let h = base_sound p.1 p.3 r p.6 in
              subst (λ z. At at_factor z ts r) (sym p.7) (record { ranked = omega arith; derived = (h.ranked, p.1, p.4 ∙ ap (λ (u : Lexeme). u ∷ p.1) (symbol_op_is bang p.0 p.2 p.5), h.derived) })

      is_complete : Complete n (At at_factor) goes_base (factor_of f)
      is_complete (negation e) ts s le h =
          let d = h.derived in
          subst (λ z. Found (prefix (symbol_op bang) negated (base_of f) z) goes_base (negation e) s) (sym d.2)
          (prefix_some (symbol_op bang) negated (base_of f) goes_base (Sign bang) d.1 tt e s refl (base_complete e d.1 s (omega (arith, ap length d.2)) (record { ranked = d.0; derived = d.3 })))
      is_complete y ts s le h =
          prefix_none (symbol_op bang) negated (base_of f) goes_base bang_refused ts y s (base_complete y ts s le (record { ranked = omega (arith, h.ranked); derived = h.derived }))

  pub term_reads : Reads n at_term goes_term (term_of f)
  unfolding term_of
  term_reads = record { sound = chain_sound at_factor n ampersand refl goes_base (factor_of f) factor_reads refl conjoined at_term (omega arith) made; complete = is_complete }
    where
      made : (e c : Label) (cs : List Label) (ts m r : List Lexeme) → At at_factor e ts m → SidesAre at_factor ampersand (c ∷ cs) m r → At at_term (conjoined e (c ∷ cs)) ts r
      made e c cs ts m r h l = record { ranked = omega arith; derived = (h.ranked, m, h.derived, tt, l) }

      is_complete : Complete n (At at_term) goes_term (term_of f)
      is_complete (conjunction e no_labels) ts s le h = absurd h.derived.3
      is_complete (conjunction e (more_labels c cs)) ts s le h =
          let d = h.derived in
          subst (λ z. Found (term_of f ts) goes_term (conjunction e (more_labels c z)) s) (labels_listed-items_of_labels cs)
          (chain_found at_factor n ampersand refl goes_base (factor_of f) factor_reads refl conjoined e (items_of_labels (more_labels c cs)) ts d.1 s le (record { ranked = d.0; derived = d.2 })
          (subst (λ z. AreSides (more_labels c z) at_factor ampersand d.1 s) (sym (labels_listed-items_of_labels cs)) d.4))
      is_complete y ts s le h =
          chain_found at_factor n ampersand refl goes_base (factor_of f) factor_reads refl conjoined y [] ts s s le (record { ranked = omega (arith, h.ranked); derived = h.derived }) refl

  pub expression_reads : Reads n at_expression goes_label (expression_of f)
  unfolding expression_of
  expression_reads = record { sound = chain_sound at_term n bar refl goes_term (term_of f) term_reads refl disjoined at_expression (omega arith) made; complete = is_complete }
    where
      made : (e c : Label) (cs : List Label) (ts m r : List Lexeme) → At at_term e ts m → SidesAre at_term bar (c ∷ cs) m r → At at_expression (disjoined e (c ∷ cs)) ts r
      made e c cs ts m r h l = record { ranked = omega arith; derived = (h.ranked, m, h.derived, tt, l) }

      is_complete : Complete n (At at_expression) goes_label (expression_of f)
      is_complete (disjunction e no_labels) ts s le h = absurd h.derived.3
      is_complete (disjunction e (more_labels c cs)) ts s le h =
          let d = h.derived in
          subst (λ z. Found (expression_of f ts) goes_label (disjunction e (more_labels c z)) s) (labels_listed-items_of_labels cs)
          (chain_found at_term n bar refl goes_term (term_of f) term_reads refl disjoined e (items_of_labels (more_labels c cs)) ts d.1 s le (record { ranked = d.0; derived = d.2 })
          (subst (λ z. AreSides (more_labels c z) at_term bar d.1 s) (sym (labels_listed-items_of_labels cs)) d.4))
      is_complete y ts s le h =
          chain_found at_term n bar refl goes_term (term_of f) term_reads refl disjoined y [] ts s s le (record { ranked = omega (arith, h.ranked); derived = h.derived }) refl

-- The knot

label_rank_le : (x : Label) → label_rank x ≤ at_expression
label_rank_le (negation e) = omega arith
label_rank_le (conjunction e es) = omega arith
label_rank_le _ = omega arith

read_to_reads : (n : ℕ) → Inner n (read_to n)
unfolding read_to
read_to_reads zero = record { sound = λ ts x r e. absurd (cc); complete = λ y ts s le h. absurd (omega arith) }
read_to_reads (suc n) = record {
  sound = λ ts x r e. ((expression_reads n (read_to n) (read_to_reads n)).sound ts x r e).derived;
  complete = λ y ts s le h. (expression_reads n (read_to n) (read_to_reads n)).complete y ts s (omega arith) (record { ranked = label_rank_le y; derived = h });
}

pub read_label_reads : (n : ℕ) → Inner n read_label
unfolding read_label
read_label_reads n = record { sound = λ ts. (read_to_reads (suc (length ts))).sound ts; complete = λ y ts s le h. (read_to_reads (suc (length ts))).complete y ts s (omega arith) h }

-- What other grammars cite

-- what is read derives
pub label_sound : Sound IsLabel read_label
label_sound ts = (read_label_reads (suc (length ts))).sound ts

-- what derives is read, or more is; only `&` and `|` go on with a label expression
pub label_complete : (n : ℕ) → Complete n IsLabel goes_label read_label
label_complete n y ts s le h = (read_label_reads (suc n)).complete y ts s (omega arith) h

-- reading needs no number of lexemes
pub read_label_is : (ts : List Lexeme) → read_label ts ≡ expression_of read_label ts
read_label_is ts =
    let n = suc (length ts) in
    let b = expression_reads n read_label (read_label_reads n) in
    agree IsLabel goes_label ts (read_label ts) (expression_of read_label ts) (label_sound ts) (λ y s h. label_complete n y ts s (omega arith) h)
    (λ x r e. (b.sound ts x r e).derived) (λ y s h. b.complete y ts s (omega arith) (record { ranked = label_rank_le y; derived = h }))

-- the longest front that derives is read
pub label_longest : (ts : List Lexeme) → Longest IsLabel ts (read_label ts)
label_longest ts = is_longest IsLabel goes_label ts (read_label ts) (label_sound ts) (λ y s h. label_complete (length ts) y ts s (omega arith) h)
