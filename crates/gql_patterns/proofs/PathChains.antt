-- Rows and chains of path patterns, and the knot: the reader inside parentheses is the reader itself.
use Rattle.std.proofs.Common.{◌≡◌, ℕ, zero, suc, ◌≤◌, Bool, true, false, ◌||◌, List, [], ◌∷◌, length, Option, Some, None, refl, sym, ap, subst, ◌∙◌, arith}
use Rattle.gql_lexer.specs.declared.lexeme.Lexeme.{Lexeme}
use Rattle.gql_lexer.specs.declared.lexeme.Lexeme.TheVariants as lex
use Rattle.gql_lexer.specs.SymbolPlaces.{bar, multiset_bar}
use Rattle.gql_ast.specs.Pattern.{Pattern, Patterns, patterns_of, items_of_patterns, node, edge, paren, repeated, optional, sequence, alternation, multiset_alternation, no_patterns, more_patterns}
use Rattle.gql_front.specs.Longest.{Longest}
use Rattle.gql_front.specs.Reading as reading
use Rattle.gql_front.specs.Reading.{Reader, is_sign, one_or}
use Rattle.gql_front.proofs.Agree.{agree, is_longest}
use Rattle.gql_front.proofs.Found.{Goes, Found, exact, longer, Sound, Complete, exact_at, is_there, StepIs, step_goes, step_sound, step_complete}
use Rattle.gql_front.proofs.LexemeTests.{cond_some_is}
use Rattle.gql_front.proofs.Chains as chains
use Rattle.gql_front.proofs.Chains.{Consumes, Opens, Many, operators_apart, sequence_found, level_sound}
use Rattle.gql_exprs.specs.Machinery.LabelReaders.{symbol_op}
use Rattle.gql_parts.specs.Parts.{Passes}
use Rattle.gql_parts.specs.Machinery.PartReaders.{taken}
use Rattle.gql_patterns.specs.PathGrammar.{at_factor, at_term, at_expression, level, IsPath, AreFactors, AreSides}
use Rattle.gql_patterns.specs.declared.path_chain.PathChain.{PathChain}
use Rattle.gql_patterns.specs.declared.path_chain.PathChain.TheVariants as chain
use Rattle.gql_patterns.specs.Machinery.PathReaders.{symbol_of, chain_node, chain_at, row_node, factor_of, term_of, side_of, sides_of, path_of, read_to, read_path}
use Rattle.gql_patterns.proofs.SignSets.{sign_whole, found_to}
use Rattle.gql_patterns.proofs.PathStarts.{goes_factor, begins_path, goes_term, goes_path, path_begins, before_path, factor_apart, path_shorter}
use Rattle.gql_patterns.proofs.PathLevels.{At, at_consumes, Reads, Inner, factor_reads, patterns_of-items_of_patterns}

-- Parts in a row

abbrev FactorsAre : List Pattern → List Lexeme → List Lexeme → Type 0
FactorsAre xs ts r = AreFactors (patterns_of xs) ts r

factors_are : Many (At at_factor) FactorsAre
factors_are = record {
  none = λ r. refl;
  is_none = λ ts r h. h;
  more = λ c cs ts m r h l. (h.ranked, m, h.derived, l);
  is_more = λ c cs ts r h. (h.1, record { ranked = h.0; derived = h.2 }, h.3);
}

factors_apart : chains.Apart goes_factor (At at_factor)
factors_apart c ts r h i = before_path goes_factor factor_apart c ts r h.derived i

module _ (n : ℕ) (f : Reader Pattern) (inner : Inner n f) where
  factors : Reads n at_factor goes_factor (factor_of f)
  factors = factor_reads n f inner

  factors_open : Opens begins_path (factor_of f)
  factors_open ts x e = path_begins x.0 ts x.1 (factors.sound ts x.0 x.1 e).derived

  row_found : (x : Pattern) (xs : List Pattern) (ts m s : List Lexeme) → length ts ≤ n → At at_factor x ts m → FactorsAre xs m s → Found (term_of f ts) goes_term (one_or row_node x xs) s
  unfolding term_of
  row_found =
      sequence_found (factor_of f) (factor_of f) (one_or row_node) (At at_factor) (At at_factor) FactorsAre factors_are factors.sound factors.sound
      (at_consumes at_factor) (at_consumes at_factor) n goes_factor begins_path factors.complete factors.complete factors_apart factors_open

  term_sound : Sound (At at_term) (term_of f)
  unfolding term_of
  term_sound =
      level_sound (factor_of f) (factor_of f) row_node (At at_factor) (At at_term) (At at_factor) FactorsAre factors_are factors.sound factors.sound
      (λ x ts r h. record { ranked = omega (arith, h.ranked); derived = h.derived }) made
    where
      made : (x c : Pattern) (cs : List Pattern) (ts m r : List Lexeme) → At at_factor x ts m → FactorsAre (c ∷ cs) m r → At at_term (row_node x (c ∷ cs)) ts r
      made x c cs ts m r h l = record { ranked = omega arith; derived = (h.ranked, m, h.derived, tt, l) }

  term_complete : Complete n (At at_term) goes_term (term_of f)
  term_complete (sequence x no_patterns) ts s le h = absurd h.derived.3
  term_complete (sequence x (more_patterns c cs)) ts s le h =
      let d = h.derived in
      subst (λ z. Found (term_of f ts) goes_term (sequence x (more_patterns c z)) s) (patterns_of-items_of_patterns cs)
      (row_found x (items_of_patterns (more_patterns c cs)) ts d.1 s le (record { ranked = d.0; derived = d.2 })
      (subst (λ z. AreFactors (more_patterns c z) d.1 s) (sym (patterns_of-items_of_patterns cs)) d.4))
  term_complete y ts s le h = row_found y [] ts s s le (record { ranked = omega (arith, h.ranked); derived = h.derived }) refl

  pub term_reads : Reads n at_term goes_term (term_of f)
  term_reads = record { sound = term_sound; complete = term_complete }

-- Chains

abbrev SidesAre : ℕ → List Pattern → List Lexeme → List Lexeme → Type 0
SidesAre place xs ts r = AreSides (patterns_of xs) place ts r

abbrev Side : ℕ → Pattern → List Lexeme → List Lexeme → Type 0
Side place = StepIs (symbol_op place) (At at_term) taken

sides_are : (place : ℕ) → Many (Side place) (SidesAre place)
sides_are place = record { none = λ r. refl; is_none = λ ts r h. h; more = more; is_more = is_more }
  where
    more : (c : Pattern) (cs : List Pattern) (ts m r : List Lexeme) → Side place c ts m → SidesAre place cs m r → SidesAre place (c ∷ cs) ts r
    more c cs ts m r h l =
        subst (λ z. SidesAre place (z ∷ cs) ts r) h.made
        (h.behind, (h.token, (cond_some_is (is_sign place h.token) tt h.operator h.is_operator).0, h.whole), h.derived.ranked, m, h.derived.derived, l)

    is_more : (c : Pattern) (cs : List Pattern) (ts r : List Lexeme) → SidesAre place (c ∷ cs) ts r → (m : List Lexeme) × Side place c ts m × SidesAre place cs m r
    is_more c cs ts r h = (
      h.3,
      record { token = h.1.0; behind = h.0; operator = tt; item = c; made = refl; is_operator = rw h.1.1 refl; whole = h.1.2; derived = record { ranked = h.2; derived = h.4 } },
      h.5,
    )

side_consumes : (place : ℕ) → Consumes (Side place)
side_consumes place c ts r h = omega (arith, ap length h.whole, path_shorter h.item h.behind r h.derived.derived)

-- no term goes on with the symbol of a chain
symbol_apart : (c : PathChain) → goes_term (lex.Sign (symbol_of c)) ≡ false
symbol_apart chain.Union = refl
symbol_apart chain.MultisetUnion = refl

symbol_op_is : (place : ℕ) (t : Lexeme) (o : Unit {0}) → symbol_op place t ≡ Some o → is_sign place t ≡ true
symbol_op_is place t o e = (cond_some_is (is_sign place t) tt o e).0

not_both : (c : PathChain) (t : Lexeme) (o : Unit {0}) → symbol_op (symbol_of c) t ≡ Some o → goes_term t ≡ true → ⊥
not_both c t o e h =
    let whole = sign_whole (symbol_of c) (t ∷ []) [] (t, symbol_op_is (symbol_of c) t o e, refl) in
    let stop = symbol_apart c in
    let same : t ≡ lex.Sign (symbol_of c) = cc in
    let q = ap goes_term same in
    cc

-- with what a chain goes on, an expression does
chain_goes : (c : PathChain) (t : Lexeme) → (goes_term t || is_there (symbol_op (symbol_of c) t)) ≡ true → goes_path t ≡ true
chain_goes chain.Union t h = or_left (goes_term t || is_there (symbol_op bar t)) (is_there (symbol_op multiset_bar t)) h
  where
    or_left : (a b : Bool) → a ≡ true → (a || b) ≡ true
    or_left true b e = refl
    or_left false b e = absurd cc
chain_goes chain.MultisetUnion t h = past (goes_term t) (is_there (symbol_op bar t)) (is_there (symbol_op multiset_bar t)) h
  where
    past : (a b c : Bool) → (a || c) ≡ true → ((a || b) || c) ≡ true
    past true b c e = refl
    past false true c e = refl
    past false false c e = e

-- the chain whose symbol stands in front
chain_is_at : (c : PathChain) (ts r : List Lexeme) → Passes (is_sign (symbol_of c)) ts r → chain_at ts ≡ c
unfolding chain_at
chain_is_at chain.Union ts r h = ap chain_at (sign_whole bar ts r h)
chain_is_at chain.MultisetUnion ts r h = ap chain_at (sign_whole multiset_bar ts r h)

module _ (n : ℕ) (f : Reader Pattern) (inner : Inner n f) where
  terms : Reads n at_term goes_term (term_of f)
  terms = term_reads n f inner

  -- a chain, of which it is known which it is
  abbrev chain_of : PathChain → Reader Pattern
  chain_of c = reading.sequence (term_of f) (side_of f c) (one_or (chain_node c))

  chain_read : (ts : List Lexeme) (x : Pattern) (m : List Lexeme) → term_of f ts ≡ Some (x, m) → path_of f ts ≡ chain_of (chain_at m) ts
  unfolding path_of sides_of reading.sequence
  chain_read ts x m e = rw e refl

  chain_found : (c : PathChain) (x : Pattern) (xs : List Pattern) (ts m s : List Lexeme) → length ts ≤ n → At at_term x ts m → SidesAre (symbol_of c) xs m s
      → Found (chain_of c ts) goes_path (one_or (chain_node c) x xs) s
  chain_found c x xs ts m s le h l =
      found_to (chain_of c ts) (λ t. goes_term t || is_there (symbol_op (symbol_of c) t)) goes_path (chain_goes c) (one_or (chain_node c) x xs) s
      (sequence_found (term_of f) (side_of f c) (one_or (chain_node c)) (At at_term) (Side (symbol_of c)) (SidesAre (symbol_of c)) (sides_are (symbol_of c))
      terms.sound (step_sound (symbol_op (symbol_of c)) (term_of f) taken (At at_term) terms.sound) (at_consumes at_term) (side_consumes (symbol_of c)) n goes_term
      (λ t. is_there (symbol_op (symbol_of c) t)) terms.complete (step_complete (symbol_op (symbol_of c)) (term_of f) taken n (At at_term) goes_term terms.complete)
      (operators_apart goes_term (symbol_op (symbol_of c)) (At at_term) taken (not_both c)) (step_goes (symbol_op (symbol_of c)) (term_of f) taken) x xs ts m s le h l)

  -- one term alone, whatever stands behind it
  alone_found : (y : Pattern) (ts s : List Lexeme) → length ts ≤ n → At at_term y ts s → Found (path_of f ts) goes_path y s
  alone_found y ts s le h = go (terms.complete y ts s le h)
    where
      with_chain : (x : Pattern) (m : List Lexeme) → term_of f ts ≡ Some (x, m) → Found (path_of f ts) goes_path y s
      with_chain x m e = subst (λ o. Found o goes_path y s) (sym (chain_read ts x m e)) (chain_found (chain_at m) y [] ts s s le h refl)

      go : Found (term_of f ts) goes_term y s → Found (path_of f ts) goes_path y s
      go (exact e) = with_chain y s e
      go (longer x r e l i) = with_chain x r e

  -- a chain of two sides or more
  sides_found : (c : PathChain) (x z : Pattern) (zs : Patterns) (ts m s : List Lexeme) → length ts ≤ n → level x ≤ at_term → IsPath x ts m → AreSides (more_patterns z zs) (symbol_of c) m s
      → Found (path_of f ts) goes_path (chain_node c x (z ∷ items_of_patterns zs)) s
  sides_found c x z zs ts m s le ranked h l =
      let first : At at_term x ts m = record { ranked = ranked; derived = h } in
      let symbol = sign_whole (symbol_of c) m l.0 l.1 in
      let stop : Goes goes_term m → ⊥ = subst (λ z. Goes goes_term z → ⊥) (sym symbol) (λ i. let q = symbol_apart c in cc) in
      let read = exact_at (term_of f ts) goes_term x m (terms.complete x ts m le first) stop in
      let sides = subst (λ w. AreSides (more_patterns z w) (symbol_of c) m s) (sym (patterns_of-items_of_patterns zs)) l in
      subst (λ o. Found o goes_path (chain_node c x (z ∷ items_of_patterns zs)) s) (sym (chain_read ts x m read ∙ ap (λ k. chain_of k ts) (chain_is_at c m l.0 l.1)))
      (chain_found c x (z ∷ items_of_patterns zs) ts m s le first sides)

  path_complete : Complete n (At at_expression) goes_path (path_of f)
  path_complete (alternation x no_patterns) ts s le h = absurd h.derived.3
  path_complete (alternation x (more_patterns z zs)) ts s le h =
      let d = h.derived in
      subst (λ w. Found (path_of f ts) goes_path (alternation x (more_patterns z w)) s) (patterns_of-items_of_patterns zs)
      (sides_found chain.Union x z zs ts d.1 s le d.0 d.2 d.4)
  path_complete (multiset_alternation x no_patterns) ts s le h = absurd h.derived.3
  path_complete (multiset_alternation x (more_patterns z zs)) ts s le h =
      let d = h.derived in
      subst (λ w. Found (path_of f ts) goes_path (multiset_alternation x (more_patterns z w)) s) (patterns_of-items_of_patterns zs)
      (sides_found chain.MultisetUnion x z zs ts d.1 s le d.0 d.2 d.4)
  path_complete y ts s le h = alone_found y ts s le (record { ranked = omega (arith, h.ranked); derived = h.derived })

  made : (c : PathChain) (x z : Pattern) (zs : List Pattern) (ts m r : List Lexeme) → At at_term x ts m → SidesAre (symbol_of c) (z ∷ zs) m r → At at_expression (chain_node c x (z ∷ zs)) ts r
  made chain.Union x z zs ts m r h l = record { ranked = omega arith; derived = (h.ranked, m, h.derived, tt, l) }
  made chain.MultisetUnion x z zs ts m r h l = record { ranked = omega arith; derived = (h.ranked, m, h.derived, tt, l) }

  chain_sound : (c : PathChain) → Sound (At at_expression) (chain_of c)
  chain_sound c =
      level_sound (term_of f) (side_of f c) (chain_node c) (At at_term) (At at_expression) (Side (symbol_of c)) (SidesAre (symbol_of c)) (sides_are (symbol_of c))
      terms.sound (step_sound (symbol_op (symbol_of c)) (term_of f) taken (At at_term) terms.sound)
      (λ x ts r h. record { ranked = omega (arith, h.ranked); derived = h.derived }) (made c)

  missing : (ts : List Lexeme) → term_of f ts ≡ None → path_of f ts ≡ None
  unfolding path_of
  missing ts p = rw p refl

  path_sound : Sound (At at_expression) (path_of f)
  path_sound ts x r e = go (term_of f ts) refl
    where
      go : (o : Option (Pattern × List Lexeme)) → term_of f ts ≡ o → At at_expression x ts r
      go None p = let q = missing ts p in absurd cc
      go (Some y) p = chain_sound (chain_at y.1) ts x r (sym (chain_read ts y.0 y.1 p) ∙ e)

  pub path_reads : Reads n at_expression goes_path (path_of f)
  path_reads = record { sound = path_sound; complete = path_complete }

-- The knot

level_le : (x : Pattern) → level x ≤ at_expression
level_le (node f) = omega arith
level_le (edge d f) = omega arith
level_le (paren m x c) = omega arith
level_le (repeated x q) = omega arith
level_le (optional x) = omega arith
level_le (sequence x xs) = omega arith
level_le (alternation x xs) = omega arith
level_le (multiset_alternation x xs) = omega arith

read_to_reads : (n : ℕ) → Inner n (read_to n)
unfolding read_to
read_to_reads zero = record { sound = λ ts x r e. absurd cc; complete = λ y ts s le h. absurd (omega arith) }
read_to_reads (suc n) = record {
  sound = λ ts x r e. ((path_reads n (read_to n) (read_to_reads n)).sound ts x r e).derived;
  complete = λ y ts s le h. (path_reads n (read_to n) (read_to_reads n)).complete y ts s (omega arith) (record { ranked = level_le y; derived = h });
}

pub read_path_reads : (n : ℕ) → Inner n read_path
unfolding read_path
read_path_reads n = record { sound = λ ts. (read_to_reads (suc (length ts))).sound ts; complete = λ y ts s le h. (read_to_reads (suc (length ts))).complete y ts s (omega arith) h }

-- What others cite

-- what is read derives
pub path_is_sound : Sound IsPath read_path
path_is_sound ts = (read_path_reads (suc (length ts))).sound ts

-- what derives is read, or more is; goes_path has the lexemes with which a path pattern may go on
pub path_is_found : (n : ℕ) → Complete n IsPath goes_path read_path
path_is_found n y ts s le h = (read_path_reads (suc n)).complete y ts s (omega arith) h

-- reading needs no number of lexemes
pub read_path_is : (ts : List Lexeme) → read_path ts ≡ path_of read_path ts
read_path_is ts =
    let n = suc (length ts) in
    let b = path_reads n read_path (read_path_reads n) in
    agree IsPath goes_path ts (read_path ts) (path_of read_path ts) (path_is_sound ts) (λ y s h. path_is_found n y ts s (omega arith) h)
    (λ x r e. (b.sound ts x r e).derived) (λ y s h. b.complete y ts s (omega arith) (record { ranked = level_le y; derived = h }))

-- the longest front that derives is read
pub path_longest : (ts : List Lexeme) → Longest IsPath ts (read_path ts)
path_longest ts = is_longest IsPath goes_path ts (read_path ts) (path_is_sound ts) (λ y s h. path_is_found (length ts) y ts s (omega arith) h)
