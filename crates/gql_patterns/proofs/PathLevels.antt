-- Reading a path pattern expression is sound and complete, level by level from the elements up. What stands in parentheses is
-- read by some f that is sound and complete on fewer lexemes.
use Rattle.std.proofs.Common.{◌≡◌, ℕ, ◌<◌, ◌≤◌, inl, inr, Bool, false, List, length, Option, Some, None, option_map, refl, sym, ap, subst, ◌∙◌, arith}
use Rattle.gql_lexer.specs.declared.lexeme.Lexeme.{Lexeme}
use Rattle.gql_lexer.specs.declared.lexeme.Lexeme.TheVariants as lex
use Rattle.gql_lexer.specs.SymbolPlaces.{opening, closing}
use Rattle.gql_lexer.specs.WordPlaces.{WHERE}
use Rattle.gql_ast.specs.Tree.{Tree}
use Rattle.gql_ast.specs.Filler.{FillerTree}
use Rattle.gql_ast.specs.Meaning.{tree_of}
use Rattle.gql_ast.specs.PatternMeaning as meaning
use Rattle.gql_ast.specs.Pattern.{Pattern, Patterns, patterns_of, items_of_patterns, node, edge, paren, repeated, optional, sequence, alternation, multiset_alternation, no_patterns, more_patterns}
use Rattle.gql_ast.specs.declared.mode.Mode.{Mode}
use Rattle.gql_ast.specs.declared.pattern.Direction.{Direction}
use Rattle.gql_ast.specs.declared.pattern.Direction.TheVariants as direction
use Rattle.gql_front.specs.Reading.{Reader, is_sign, after, chosen, either}
use Rattle.gql_front.proofs.Found.{Goes, Found, exact, Sound, Complete, exact_at, SuffixRead, suffix_some, suffix_none, suffix_split}
use Rattle.gql_front.proofs.Chains.{Consumes}
use Rattle.gql_parts.specs.Parts.{Passes, IsOptional}
use Rattle.gql_parts.specs.Machinery.FillerReaders.{where_of, filler_of}
use Rattle.gql_parts.proofs.PartLaws.{Stops, nothing, bind_then, finish, passes_after, after_passes, stops_after, word_apart, sign_apart, passes_stops}
use Rattle.gql_parts.proofs.FillerLaws.{where_sound, filler_sound}
use Rattle.gql_parts.proofs.LongestLaws.{goes_where, where_found, filler_exact}
use Rattle.gql_patterns.specs.PatternWords.{symbol_before, short_symbol}
use Rattle.gql_patterns.specs.EdgeGrammar.{IsEdge}
use Rattle.gql_patterns.specs.PrefixGrammar.{IsMode}
use Rattle.gql_patterns.specs.PathGrammar.{at_primary, at_factor, level, IsNode, MayHold, IsPath}
use Rattle.gql_patterns.specs.declared.quantifier.Repetition.{Repetition}
use Rattle.gql_patterns.specs.declared.quantifier.Repetition.TheVariants as repetition
use Rattle.gql_patterns.specs.Machinery.QuantifierReaders.{repetition_of, repeat_by}
use Rattle.gql_patterns.specs.Machinery.PrefixReaders.{part_mode_of}
use Rattle.gql_patterns.specs.Machinery.PathReaders.{node_pattern_of, closed_part_of, part_of, in_parentheses_of, parenthesis_or_edge, primary_of, factor_of}
use Rattle.gql_patterns.proofs.SignSets.{among_apart, goes_stops}
use Rattle.gql_patterns.proofs.EdgeLaws.{goes_edge, edge_sound, edge_found}
use Rattle.gql_patterns.proofs.QuantifierLaws.{IsRepetition, begins_repetition, repetition_goes, repetition_sound, repetition_exact, repetition_shrinks, repetition_opens}
use Rattle.gql_patterns.proofs.PrefixLaws.{is_mode, part_mode_sound, part_mode_exact, part_mode_shorter}
use Rattle.gql_patterns.specs.PatternWords.{is_path_word}
use Rattle.gql_patterns.proofs.PathStarts.{goes_factor, path_signs, goes_path, before_path, edge_apart, path_shorter, begins_part, no_node_begins, part_begins, hold_stops}

pub patterns_of-items_of_patterns : (xs : Patterns) → patterns_of (items_of_patterns xs) ≡ xs
patterns_of-items_of_patterns no_patterns = refl
patterns_of-items_of_patterns (more_patterns x xs) = ap (λ z. more_patterns x z) (patterns_of-items_of_patterns xs)

-- a path pattern of at most a level
pub record At (k : ℕ) (x : Pattern) (ts r : List Lexeme) : Type 0 where
  pub ranked : level x ≤ k
  pub derived : IsPath x ts r

pub at_consumes : (k : ℕ) → Consumes (At k)
at_consumes k x ts r h = path_shorter x ts r h.derived

-- a reader of the path patterns of at most a level, on at most n lexemes
pub record Reads (n k : ℕ) (g : Lexeme → Bool) (p : Reader Pattern) : Type 0 where
  pub sound : Sound (At k) p
  pub complete : Complete n (At k) g p

-- a reader of all path patterns, on fewer than n lexemes
pub record Inner (n : ℕ) (f : Reader Pattern) : Type 0 where
  pub sound : Sound IsPath f
  pub complete : (y : Pattern) (ts s : List Lexeme) → length ts < n → IsPath y ts s → Found (f ts) goes_path y s

-- Nodes

-- behind the opening parenthesis
abbrev SomeNode : Pattern → List Lexeme → List Lexeme → Type 0
SomeNode x ts r = (f : FillerTree) × (x ≡ node f) × IsNode f ts r

node_sound : Sound SomeNode node_pattern_of
unfolding node_pattern_of
node_sound ts x r e =
    bind_then (filler_of ts) _ (x, r) e (λ f p e.
    bind_then (after (is_sign closing) f.1) _ (x, r) e (λ a q e.
    finish (λ x r. SomeNode x ts r) (node (meaning.filler_of f.0)) a x r e
    (meaning.filler_of f.0, refl, (f.1, (f.0, refl, filler_sound ts f.0 f.1 p), after_passes (is_sign closing) f.1 a q))))

node_exact : (f : FillerTree) (ts s : List Lexeme) → IsNode f ts s → node_pattern_of ts ≡ Some (node f, s)
unfolding node_pattern_of
node_exact f ts s h =
    rw (filler_exact closing refl h.1.0 ts h.0 s h.1.2 h.2, passes_after (is_sign closing) h.0 s h.2) (ap (λ (z : FillerTree). Some (node z, s)) h.1.1)

-- what begins with a mode or a path pattern is no node
no_node : (ts : List Lexeme) → Goes begins_part ts → node_pattern_of ts ≡ None
no_node ts begins = go (node_pattern_of ts) refl
  where
    go : (o : Option (Pattern × List Lexeme)) → node_pattern_of ts ≡ o → node_pattern_of ts ≡ None
    go None e = e
    go (Some x) e = let h = node_sound ts x.0 x.1 e in absurd (no_node_begins h.0 ts x.1 h.2 begins)

-- an edge begins with no parenthesis

before_opening : (d : Direction) → is_sign opening (lex.Sign (symbol_before d)) ≡ false
before_opening direction.Left = refl
before_opening direction.Undirected = refl
before_opening direction.Right = refl
before_opening direction.LeftOrUndirected = refl
before_opening direction.UndirectedOrRight = refl
before_opening direction.LeftOrRight = refl
before_opening direction.Any = refl

short_opening : (d : Direction) → is_sign opening (lex.Sign (short_symbol d)) ≡ false
short_opening direction.Left = refl
short_opening direction.Undirected = refl
short_opening direction.Right = refl
short_opening direction.LeftOrUndirected = refl
short_opening direction.UndirectedOrRight = refl
short_opening direction.LeftOrRight = refl
short_opening direction.Any = refl

no_opening : (d : Direction) (f : FillerTree) (ts r : List Lexeme) → IsEdge d f ts r → Stops (is_sign opening) ts
no_opening d f ts r (inl h) = passes_stops (is_sign (symbol_before d)) (is_sign opening) (sign_apart (symbol_before d) (is_sign opening) (before_opening d)) ts h.0 h.1
no_opening d f ts r (inr h) = passes_stops (is_sign (short_symbol d)) (is_sign opening) (sign_apart (short_symbol d) (is_sign opening) (short_opening d)) ts r h.1

module _ (n : ℕ) (f : Reader Pattern) (inner : Inner n f) where
  -- Parts in parentheses, behind the opening one

  abbrev SomePart : Pattern → List Lexeme → List Lexeme → Type 0
  SomePart x ts r = (a : List Lexeme) → Passes (is_sign opening) a ts → At at_primary x a r

  part_sound : Sound SomePart (part_of f)
  unfolding part_of closed_part_of
  part_sound ts x r e =
      bind_then (f (part_mode_of ts).1) _ (x, r) e (λ y p e.
      bind_then (where_of y.1) _ (x, r) e (λ w q e.
      bind_then (after (is_sign closing) w.1) _ (x, r) e (λ c k e.
      finish (λ x r. SomePart x ts r) (paren (part_mode_of ts).0 y.0 (option_map tree_of w.0)) c x r e (λ a opens. record {
        ranked = omega arith;
        derived = (
          ts,
          opens,
          (part_mode_of ts).1,
          part_mode_sound ts,
          y.1,
          inner.sound (part_mode_of ts).1 y.0 y.1 p,
          w.1,
          (w.0, refl, where_sound y.1 w.0 w.1 q),
          after_passes (is_sign closing) w.1 c k,
        );
      }))))

  -- behind the mode
  closed_exact : (m : Option Mode) (x : Pattern) (c : Option Tree) (b d e s : List Lexeme) → length b < n → IsPath x b d → MayHold c d e → Passes (is_sign closing) e s
      → closed_part_of f m b ≡ Some (paren m x c, s)
  unfolding closed_part_of
  closed_exact m x c b d e s le path hold close =
      let ends : (g : Lexeme → Bool) → g (lex.Sign closing) ≡ false → Stops g e = λ g p. passes_stops (is_sign closing) g (sign_apart closing g p) e s close in
      let stop = hold_stops goes_path (word_apart WHERE goes_path (λ x. refl)) c d e hold (ends goes_path refl) in
      rw (
        exact_at (f b) goes_path x d (inner.complete x b d le path) stop,
        exact_at (where_of d) goes_where hold.0 e (where_found hold.0 d e hold.2) (ends goes_where refl),
        passes_after (is_sign closing) e s close,
      ) (ap (λ (z : Option Tree). Some (paren m x z, s)) hold.1)

  part_exact : (m : Option Mode) (x : Pattern) (c : Option Tree) (a b d e s : List Lexeme) → length a < n → IsOptional IsMode m a b → IsPath x b d → MayHold c d e → Passes (is_sign closing) e s
      → part_of f a ≡ Some (paren m x c, s)
  unfolding part_of
  part_exact m x c a b d e s le mode path hold close =
      let no_mode = before_path is_mode (among_apart path_signs is_mode refl) x b d path in
      let no_word = before_path is_path_word (among_apart path_signs is_path_word refl) x b d path in
      rw (part_mode_exact m a b mode no_mode no_word) (closed_exact m x c b d e s (omega (arith, part_mode_shorter m a b mode)) path hold close)

  -- In parentheses, or an edge

  in_parentheses_sound : Sound SomePart (in_parentheses_of f)
  unfolding in_parentheses_of either
  in_parentheses_sound ts x r e = go (node_pattern_of ts) refl e
    where
      go : (o : Option (Pattern × List Lexeme)) → node_pattern_of ts ≡ o → chosen o (part_of f ts) ≡ Some (x, r) → SomePart x ts r
      go None p k = part_sound ts x r k
      go (Some y) p k = λ a opens.
          let h = node_sound ts x r (p ∙ k) in
          subst (λ z. At at_primary z a r) (sym h.1) (record { ranked = omega arith; derived = (ts, opens, h.2) })

  primary_sound : Sound (At at_primary) (primary_of f)
  unfolding primary_of
  primary_sound ts x r e = go (after (is_sign opening) ts) refl e
    where
      go : (o : Option (List Lexeme)) → after (is_sign opening) ts ≡ o → parenthesis_or_edge f ts o ≡ Some (x, r) → At at_primary x ts r
      go (Some a) p k = in_parentheses_sound a x r k ts (after_passes (is_sign opening) ts a p)
      go None p k =
          let h = edge_sound ts x r k in
          subst (λ z. At at_primary z ts r) (sym h.2) (record { ranked = omega arith; derived = h.3 })

  -- nothing but an edge goes on
  primary_complete : Complete n (At at_primary) goes_edge (primary_of f)
  unfolding primary_of in_parentheses_of either
  primary_complete (node x) ts s le h =
      let d = h.derived in
      exact (ap (parenthesis_or_edge f ts) (passes_after (is_sign opening) ts d.0 d.1) ∙ ap (λ o. chosen o (part_of f d.0)) (node_exact x d.0 s d.2))
  primary_complete (edge w x) ts s le h =
      subst (λ (o : Option (List Lexeme)). Found (parenthesis_or_edge f ts o) goes_edge (edge w x) s) (sym (stops_after (is_sign opening) ts (no_opening w x ts s h.derived)))
      (edge_found w x ts s h.derived)
  primary_complete (paren m x c) ts s le h =
      let d = h.derived in
      let read = part_exact m x c d.0 d.2 d.4 d.6 s (omega (arith, ap length d.1.2)) d.3 d.5 d.7 d.8 in
      exact (ap (parenthesis_or_edge f ts) (passes_after (is_sign opening) ts d.0 d.1)
      ∙ ap (λ o. chosen o (part_of f d.0)) (no_node d.0 (part_begins m x d.0 d.2 d.4 d.3 d.5)) ∙ read)
  primary_complete (repeated x q) ts s le h = absurd (omega (arith, h.ranked))
  primary_complete (optional x) ts s le h = absurd (omega (arith, h.ranked))
  primary_complete (sequence x xs) ts s le h = absurd (omega (arith, h.ranked))
  primary_complete (alternation x xs) ts s le h = absurd (omega (arith, h.ranked))
  primary_complete (multiset_alternation x xs) ts s le h = absurd (omega (arith, h.ranked))

  -- Elements and parts, and how often they stand

  repeat_is : (x : Pattern) (q : Repetition) (ts m r : List Lexeme) → At at_primary x ts m → IsRepetition q m r → At at_factor (repeat_by x q) ts r
  repeat_is x (repetition.Times q) ts m r h k = record { ranked = omega arith; derived = (h.ranked, m, h.derived, k) }
  repeat_is x repetition.AtMostOnce ts m r h k = record { ranked = omega arith; derived = (h.ranked, m, h.derived, k) }

  factor_sound : Sound (At at_factor) (factor_of f)
  unfolding factor_of
  factor_sound ts x r e = go (suffix_split repetition_of repeat_by (primary_of f) goes_edge begins_repetition nothing repetition_shrinks repetition_opens ts x r e)
    where
      go : SuffixRead repetition_of repeat_by (primary_of f) ts x r → At at_factor x ts r
      go (inl p) = let h = primary_sound ts x r p in record { ranked = omega (arith, h.ranked); derived = h.derived }
      go (inr p) =
          subst (λ z. At at_factor z ts r) (sym p.5) (repeat_is p.0 p.2 ts p.1 r (primary_sound ts p.0 p.1 p.3) (repetition_sound p.1 p.2 r p.4))

  -- behind an element or a part a repetition was derived
  repeat_found : (x : Pattern) (q : Repetition) (ts m s : List Lexeme) → length ts ≤ n → At at_primary x ts m → IsRepetition q m s → Found (factor_of f ts) goes_factor (repeat_by x q) s
  unfolding factor_of
  repeat_found x q ts m s le h k =
      let read = exact_at (primary_of f ts) goes_edge x m (primary_complete x ts m le h) (goes_stops begins_repetition goes_edge edge_apart m (repetition_goes q m s k)) in
      suffix_some repetition_of repeat_by (primary_of f) goes_edge begins_repetition nothing repetition_shrinks repetition_opens ts x m q s read (exact (repetition_exact q m s k))

  factor_complete : Complete n (At at_factor) goes_factor (factor_of f)
  unfolding factor_of
  factor_complete (repeated x q) ts s le h = let d = h.derived in repeat_found x (repetition.Times q) ts d.1 s le (record { ranked = d.0; derived = d.2 }) d.3
  factor_complete (optional x) ts s le h = let d = h.derived in repeat_found x repetition.AtMostOnce ts d.1 s le (record { ranked = d.0; derived = d.2 }) d.3
  factor_complete y ts s le h =
      suffix_none repetition_of repeat_by (primary_of f) goes_edge begins_repetition nothing repetition_shrinks repetition_opens ts y s
      (primary_complete y ts s le (record { ranked = omega (arith, h.ranked); derived = h.derived }))

  pub factor_reads : Reads n at_factor goes_factor (factor_of f)
  factor_reads = record { sound = factor_sound; complete = factor_complete }
