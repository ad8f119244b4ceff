-- What derives as an atom is read, or more is.
use Rattle.std.proofs.Common.{◌≡◌, ℕ, ◌<◌, ◌≤◌, inl, inr, true, false, List, ◌∷◌, length, Option, Some, None, refl, sym, ap, subst, ◌∙◌, arith}
use Rattle.gql_lexer.specs.declared.lexeme.Lexeme.{Lexeme}
use Rattle.gql_lexer.specs.declared.lexeme.Lexeme.TheVariants as lex
use Rattle.gql_values3.specs.Datum.{Datum, null, boolean, integer, text, list, node, edge, path}
use Rattle.gql_ast.specs.Tree.{Tree, Trees, items_of_trees, constant, unknown, number, parameter, name, property, paren, listing, count_all, aggregate, call, modulo, coalesce, signed, product, sum, comparing, test, label_test, end_test, negation, conjunction, disjunction, no_trees, more_trees}
use Rattle.gql_ast.specs.declared.words.Aggregate.{Aggregate}
use Rattle.gql_ast.specs.declared.words.Aggregate.TheVariants as aggregates
use Rattle.gql_ast.specs.declared.words.Function.{Function}
use Rattle.gql_ast.specs.declared.words.SetQuantifier.{SetQuantifier}
use Rattle.gql_ast.specs.declared.words.SetQuantifier.TheVariants as quantifier
use Rattle.gql_exprs.specs.declared.atom_word.AtomWord.{AtomWord}
use Rattle.gql_exprs.specs.declared.atom_word.AtomWord.TheVariants as atom
use Rattle.gql_lexer.specs.SymbolPlaces.{opening, closing, opening_bracket, closing_bracket, comma, star}
use Rattle.gql_front.specs.Tables.{Begins}
use Rattle.gql_front.specs.Reading.{◌>>=◌, Reader, is_sign, after, op_at}
use Rattle.gql_front.proofs.Found.{Found, exact, longer, Complete, exact_at}
use Rattle.gql_front.proofs.LexemeTests.{after_sign}
use Rattle.gql_front.proofs.TableLemmas.{read_begins, begins_shorter, word_row}
use Rattle.gql_exprs.specs.ExprWords.{atom_word, quantifier_words, quantifier_op}
use Rattle.gql_exprs.specs.Grammar.{at_atom, OpensList, IsQuantifier, Is, IsItems, IsList}
use Rattle.gql_exprs.specs.Machinery.LeafReaders.{quantifier_of, star_of}
use Rattle.gql_exprs.specs.Machinery.Readers.{closed_of, paren_of, list_of, listing_of, word_listing_of, aggregate_of, call_of, expr_before_comma_of, modulo_of, coalesce_of, word_atom_of, atom_of}
use Rattle.gql_exprs.proofs.ExprChains.{At, trees_of-items_of_trees}
use Rattle.gql_exprs.proofs.ExprLists.{goes_atom, goes_or, goes_list, Inner, list_found}
use Rattle.gql_exprs.proofs.ExprShorter.{is_shorter}
use Rattle.gql_exprs.proofs.ExprAtomSound.{name_found, property_read, quantifier_word, star_is}

module _ (n : ℕ) (f : Reader Tree) (inner : Inner n f) where
  inner_read : (e : Tree) (a : List Lexeme) (t : Lexeme) (s : List Lexeme) → length a < n → Is e a (t ∷ s) → goes_or t ≡ false → f a ≡ Some (e, t ∷ s)
  inner_read e a t s le h stop = exact_at (f a) goes_or e (t ∷ s) (inner.complete e a (t ∷ s) le h) (λ i. let j : true ≡ false = sym i ∙ stop in cc)

  list_read : (es : Trees) (a : List Lexeme) (t : Lexeme) (s : List Lexeme) → length a < n → IsList es a (t ∷ s) → goes_list t ≡ false → list_of f a ≡ Some (items_of_trees es, t ∷ s)
  list_read es a t s le h stop = exact_at (list_of f a) goes_list (items_of_trees es) (t ∷ s) (list_found n f inner es a (t ∷ s) le h) (λ i. let j : true ≡ false = sym i ∙ stop in cc)

  closed_read : (e : Tree) (a s : List Lexeme) → length a < n → Is e a (lex.Sign closing ∷ s) → closed_of f a ≡ Some (e, s)
  unfolding closed_of
  closed_read e a s le h = rw (inner_read e a (lex.Sign closing) s le h refl) refl

  first_read : (e : Tree) (a b : List Lexeme) → length a < n → Is e a (lex.Sign comma ∷ b) → expr_before_comma_of f (lex.Sign opening ∷ a) ≡ Some (e, b)
  unfolding expr_before_comma_of
  first_read e a b le h = rw (inner_read e a (lex.Sign comma) b le h refl) refl

  -- what derives is not refused
  not_refused : (e : Tree) (a m : List Lexeme) → length a < n → Is e a m → f a ≡ None → ⊥
  not_refused e a m le h r = go (inner.complete e a m le h)
    where
      go : Found (f a) goes_or e m → ⊥
      go (exact p) = cc
      go (longer x t p l g) = cc

  no_bracket : (e : Tree) (a m : List Lexeme) → length a < n → Is e a m → after (is_sign closing_bracket) a ≡ None
  no_bracket e a m le h = go (after (is_sign closing_bracket) a) refl
    where
      go : (o : Option (List Lexeme)) → after (is_sign closing_bracket) a ≡ o → o ≡ None
      go None q = refl
      go (Some s) q = absurd (not_refused e a m le h (ap f (after_sign closing_bracket a s q) ∙ inner.refuses_bracket s))

  no_star : (g : Aggregate) (e : Tree) (a m : List Lexeme) → length a < n → Is e a m → star_of g a ≡ None
  no_star g e a m le h = go (star_of g a) refl
    where
      go : (o : Option (List Lexeme)) → star_of g a ≡ o → o ≡ None
      go None q = refl
      go (Some s) q = absurd (not_refused e a m le h (ap f (star_is g a s q).1 ∙ inner.refuses_star s))

  no_quantifier : (e : Tree) (a m : List Lexeme) → length a < n → Is e a m → op_at quantifier_op a ≡ None
  no_quantifier e a m le h = go (op_at quantifier_op a) refl
    where
      refused : (q : SetQuantifier) (x : List ℕ) (s : List Lexeme) → f (lex.Word (quantifier_word q) x ∷ s) ≡ None
      refused quantifier.Distinct x s = inner.refuses_distinct x s
      refused quantifier.All x s = inner.refuses_all x s

      go : (o : Option (SetQuantifier × List Lexeme)) → op_at quantifier_op a ≡ o → o ≡ None
      go None q = refl
      go (Some (q, s)) p =
          let b = read_begins quantifier_op a q s p in
          let w = word_row (λ t q. (x : List ℕ) × (t ≡ lex.Word (quantifier_word q) x)) quantifier_words (λ x. ((x, refl), ((x, refl), tt))) b.0 q b.1 in
          absurd (not_refused e a m le h (ap f (b.2 ∙ ap (λ (z : Lexeme). z ∷ s) w.1) ∙ refused q w.0 s))

  quantifier_read : (q : SetQuantifier) (e : Tree) (a b m : List Lexeme) → length b < n → IsQuantifier q a b → Is e b m → quantifier_of a ≡ (q, b)
  unfolding quantifier_of
  quantifier_read quantifier.Distinct e a b m le h d = ap quantifier_of h.1
  quantifier_read quantifier.All e a b m le (inl h) d = ap quantifier_of h ∙ rw (no_quantifier e b m le d) refl
  quantifier_read quantifier.All e a b m le (inr h) d = ap quantifier_of h.1

  -- an aggregate's item begins with no star, also where a quantifier stands before it
  no_star_before : (g : Aggregate) (q : SetQuantifier) (e : Tree) (a b m : List Lexeme) → length b < n → IsQuantifier q a b → Is e b m → star_of g a ≡ None
  no_star_before aggregates.Count quantifier.Distinct e a b m le h d = ap (star_of aggregates.Count) h.1
  no_star_before aggregates.Count quantifier.All e a b m le (inl h) d = ap (star_of aggregates.Count) h ∙ no_star aggregates.Count e b m le d
  no_star_before aggregates.Count quantifier.All e a b m le (inr h) d = ap (star_of aggregates.Count) h.1
  no_star_before aggregates.Sum q e a b m le h d = refl
  no_star_before aggregates.Min q e a b m le h d = refl
  no_star_before aggregates.Max q e a b m le h d = refl
  no_star_before aggregates.CollectList q e a b m le h d = refl

  -- a word that begins an atom, and what is read behind it
  word_read : (w : AtomWord) (ts r : List Lexeme) → Begins atom_word w ts r → atom_of f ts ≡ word_atom_of f w r
  unfolding atom_of
  word_read w ts r h = ap (atom_of f) h.2 ∙ go h.0 h.1
    where
      go : (t : Lexeme) → atom_word t ≡ Some w → atom_of f (t ∷ r) ≡ word_atom_of f w r
      go (lex.Word place x) e = ap (λ (o : Option AtomWord). o >>= λ w. word_atom_of f w r) e
      go (lex.Sign place) e = absurd cc
      go (lex.Name x) e = absurd cc
      go (lex.Chars x) e = absurd cc
      go (lex.Number x) e = absurd cc
      go (lex.Param x) e = absurd cc

  items_read : (es : Trees) (ts s : List Lexeme) → length ts < n → IsItems es ts (lex.Sign closing_bracket ∷ s) → listing_of f ts ≡ Some (listing es, s)
  unfolding listing_of
  items_read no_trees ts s le h = ap (listing_of f) h
  items_read (more_trees e es) ts s le h =
      let open_still = no_bracket e ts h.0 le h.1 in
      let read = list_read (more_trees e es) ts (lex.Sign closing_bracket) s le h refl in
      rw (open_still, read, trees_of-items_of_trees) refl

  listing_read : (es : Trees) (ts a s : List Lexeme) → length a < n → OpensList ts a → IsItems es a (lex.Sign closing_bracket ∷ s) → atom_of f ts ≡ Some (listing es, s)
  unfolding atom_of word_listing_of
  listing_read es ts a s le (inl h) d = ap (atom_of f) h ∙ items_read es a s le d
  listing_read es ts a s le (inr h) d = word_read atom.List ts (lex.Sign opening_bracket ∷ a) h ∙ items_read es a s le d

  aggregate_read : (g : Aggregate) (q : SetQuantifier) (e : Tree) (a b s : List Lexeme) → length b < n → IsQuantifier q a b → Is e b (lex.Sign closing ∷ s) → aggregate_of f g (lex.Sign opening ∷ a) ≡ Some (aggregate g q e, s)
  unfolding aggregate_of
  aggregate_read g q e a b s le h d =
      rw (no_star_before g q e a b (lex.Sign closing ∷ s) le h d, quantifier_read q e a b (lex.Sign closing ∷ s) le h d, closed_read e b s le d) refl

  call_read : (g : Function) (e : Tree) (a s : List Lexeme) → length a < n → Is e a (lex.Sign closing ∷ s) → call_of f g (lex.Sign opening ∷ a) ≡ Some (call g e, s)
  unfolding call_of
  call_read g e a s le d = rw (closed_read e a s le d) refl

  modulo_read : (e d : Tree) (a b s : List Lexeme) → length a < n → Is e a (lex.Sign comma ∷ b) → Is d b (lex.Sign closing ∷ s) → modulo_of f (lex.Sign opening ∷ a) ≡ Some (modulo e d, s)
  unfolding modulo_of
  modulo_read e d a b s le h k = rw (first_read e a b le h, closed_read d b s (omega (arith, is_shorter e a (lex.Sign comma ∷ b) h)) k) refl

  coalesce_read : (e : Tree) (es : Trees) (a b s : List Lexeme) → length a < n → Is e a (lex.Sign comma ∷ b) → IsList es b (lex.Sign closing ∷ s) → coalesce_of f (lex.Sign opening ∷ a) ≡ Some (coalesce e es, s)
  unfolding coalesce_of
  coalesce_read e es a b s le h k =
      rw (first_read e a b le h, list_read es b (lex.Sign closing) s (omega (arith, is_shorter e a (lex.Sign comma ∷ b) h)) k refl, trees_of-items_of_trees) refl

  constant_read : (d : Datum) (ts s : List Lexeme) → Is (constant d) ts s → atom_of f ts ≡ Some (constant d, s)
  unfolding atom_of
  constant_read (boolean true) ts s h = word_read atom.True ts s h
  constant_read (boolean false) ts s h = word_read atom.False ts s h
  constant_read null ts s h = word_read atom.Null ts s h
  constant_read (text x) ts s h = ap (atom_of f) h
  constant_read (integer z) ts s h = absurd h
  constant_read (list xs) ts s h = absurd h
  constant_read (node v) ts s h = absurd h
  constant_read (edge v) ts s h = absurd h
  constant_read (path p) ts s h = absurd h

  quantified_fits : (q : SetQuantifier) (a b : List Lexeme) → IsQuantifier q a b → length b ≤ length a
  quantified_fits quantifier.Distinct a b h = omega (arith, ap length h.1)
  quantified_fits quantifier.All a b (inl h) = omega (arith, ap length h)
  quantified_fits quantifier.All a b (inr h) = omega (arith, ap length h.1)

  pub atom_complete : Complete n (At at_atom) goes_atom (atom_of f)
  unfolding atom_of paren_of aggregate_of
  atom_complete (constant d) ts s le h = exact (constant_read d ts s h.derived)
  atom_complete unknown ts s le h = exact (word_read atom.Unknown ts s h.derived)
  atom_complete (number digits) ts s le h = exact (ap (atom_of f) h.derived)
  atom_complete (parameter x) ts s le h = exact (ap (atom_of f) h.derived)
  atom_complete (name x) ts s le h = subst (λ z. Found (atom_of f z) goes_atom (name x) s) (sym h.derived) (name_found x s)
  atom_complete (property x p) ts s le h = let d = h.derived in exact (ap (atom_of f) d.2 ∙ property_read x p d.0 s d.1)
  atom_complete (paren e) ts s le h =
      let d = h.derived in
      exact (ap (atom_of f) d.1 ∙ rw (closed_read e d.0 s (omega (arith, ap length d.1)) d.2) refl)
  atom_complete (listing es) ts s le h = let d = h.derived in exact (listing_read es ts d.0 s (omega (arith, opening_fits ts d.0 d.1)) d.1 d.2)
    where
      opening_fits : (ts a : List Lexeme) → OpensList ts a → length a < length ts
      opening_fits ts a (inl h) = omega (arith, ap length h)
      opening_fits ts a (inr h) = omega (arith, begins_shorter atom_word atom.List ts (lex.Sign opening_bracket ∷ a) h)
  atom_complete count_all ts s le h = exact (word_read (atom.Aggregate aggregates.Count) ts (lex.Sign opening ∷ lex.Sign star ∷ lex.Sign closing ∷ s) h.derived)
  atom_complete (aggregate g q e) ts s le h =
      let d = h.derived in
      exact (word_read (atom.Aggregate g) ts (lex.Sign opening ∷ d.0) d.2
      ∙ aggregate_read g q e d.0 d.1 s (omega (arith, begins_shorter atom_word (atom.Aggregate g) ts (lex.Sign opening ∷ d.0) d.2, quantified_fits q d.0 d.1 d.3)) d.3 d.4)
  atom_complete (call g e) ts s le h =
      let d = h.derived in
      exact (word_read (atom.Call g) ts (lex.Sign opening ∷ d.0) d.1 ∙ call_read g e d.0 s (omega (arith, begins_shorter atom_word (atom.Call g) ts (lex.Sign opening ∷ d.0) d.1)) d.2)
  atom_complete (modulo e k) ts s le h =
      let d = h.derived in
      exact (word_read atom.Mod ts (lex.Sign opening ∷ d.0) d.2 ∙ modulo_read e k d.0 d.1 s (omega (arith, begins_shorter atom_word atom.Mod ts (lex.Sign opening ∷ d.0) d.2)) d.3 d.4)
  atom_complete (coalesce e es) ts s le h =
      let d = h.derived in
      exact (word_read atom.Coalesce ts (lex.Sign opening ∷ d.0) d.2 ∙ coalesce_read e es d.0 d.1 s (omega (arith, begins_shorter atom_word atom.Coalesce ts (lex.Sign opening ∷ d.0) d.2)) d.3 d.4)
  atom_complete (signed o e) ts s le h = absurd (omega (arith, h.ranked))
  atom_complete (product e ls) ts s le h = absurd (omega (arith, h.ranked))
  atom_complete (sum e ls) ts s le h = absurd (omega (arith, h.ranked))
  atom_complete (comparing c e d) ts s le h = absurd (omega (arith, h.ranked))
  atom_complete (test e o q) ts s le h = absurd (omega (arith, h.ranked))
  atom_complete (label_test e o l) ts s le h = absurd (omega (arith, h.ranked))
  atom_complete (end_test e o end v) ts s le h = absurd (omega (arith, h.ranked))
  atom_complete (negation e) ts s le h = absurd (omega (arith, h.ranked))
  atom_complete (conjunction e ls) ts s le h = absurd (omega (arith, h.ranked))
  atom_complete (disjunction e ls) ts s le h = absurd (omega (arith, h.ranked))
