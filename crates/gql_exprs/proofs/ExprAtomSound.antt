-- What is read as an atom derives.
use Rattle.std.proofs.Common.{◌≡◌, ℕ, inl, inr, Bool, true, false, cond, nat_eq, eqb-true, List, [], ◌∷◌, length, Option, Some, None, refl, sym, ap, subst, ◌∙◌, arith}
use Rattle.gql_lexer.specs.declared.lexeme.Lexeme.{Lexeme}
use Rattle.gql_lexer.specs.declared.lexeme.Lexeme.TheVariants as lex
use Rattle.gql_values3.specs.Datum.{null, boolean, text}
use Rattle.gql_ast.specs.Tree.{Tree, trees_of, constant, unknown, number, parameter, name, property, paren, listing, count_all, aggregate, call, modulo, coalesce}
use Rattle.gql_ast.specs.declared.words.Aggregate.{Aggregate}
use Rattle.gql_ast.specs.declared.words.Aggregate.TheVariants as aggregates
use Rattle.gql_ast.specs.declared.words.Function.{Function}
use Rattle.gql_ast.specs.declared.words.SetQuantifier.{SetQuantifier}
use Rattle.gql_ast.specs.declared.words.SetQuantifier.TheVariants as quantifier
use Rattle.gql_exprs.specs.declared.atom_word.AtomWord.{AtomWord}
use Rattle.gql_exprs.specs.declared.atom_word.AtomWord.TheVariants as atom
use Rattle.gql_lexer.specs.SymbolPlaces.{opening, closing, opening_bracket, closing_bracket, comma, dot, star}
use Rattle.gql_lexer.specs.WordPlaces.{ALL, DISTINCT}
use Rattle.gql_front.specs.Tables.{entry, Begins}
use Rattle.gql_front.specs.Reading.{◌>>=◌, Reader, is_sign, any_name_in, after, op_at, with_ending}
use Rattle.gql_front.proofs.Found.{Goes, Found, exact, longer, Sound, some_is, bind_some}
use Rattle.gql_front.proofs.LexemeTests.{after_sign}
use Rattle.gql_front.proofs.TableLemmas.{read_begins, word_row}
use Rattle.gql_exprs.specs.ExprWords.{atom_words, atom_word, quantifier_words, quantifier_op}
use Rattle.gql_exprs.specs.Grammar.{at_atom, OpensList, IsQuantifier, Is, IsItems, IsList}
use Rattle.gql_exprs.specs.Machinery.LeafReaders.{field, named, quantifier_or_all, quantifier_of, star_of}
use Rattle.gql_exprs.specs.Machinery.Readers.{closed_of, paren_of, list_of, empty_or_items, listing_of, word_listing_of, all_or_item, aggregate_of, call_of, expr_before_comma_of, modulo_of, coalesce_of, word_atom_of, atom_of}
use Rattle.gql_exprs.proofs.ExprChains.{At}
use Rattle.gql_exprs.proofs.ExprLists.{goes_atom, Inner, list_sound}

-- Names, and properties of them

field_is : (ts : List Lexeme) (p : List ℕ) (r : List Lexeme) → field ts ≡ Some (p, r) → (t : Lexeme) × (any_name_in t ≡ Some p) × (ts ≡ lex.Sign dot ∷ t ∷ r)
unfolding field
field_is ts p r e =
    let a = bind_some (after (is_sign dot) ts) (λ a. op_at any_name_in a) (p, r) e in
    let b = read_begins any_name_in a.0 p r a.2 in
    (b.0, b.1, after_sign dot ts a.0 a.1 ∙ ap (λ (z : List Lexeme). lex.Sign dot ∷ z) b.2)

pub name_found : (x : List ℕ) (s : List Lexeme) → Found (named x s) goes_atom (name x) s
unfolding named
name_found x s = go (field s) refl
  where
    go : (o : Option (List ℕ × List Lexeme)) → field s ≡ o → Found (Some (with_ending (λ e p. property x p) (name x) s o)) goes_atom (name x) s
    go None e = exact refl
    go (Some (p, r)) e =
        let h = field_is s p r e in
        longer (property x p) r refl (omega (arith, ap length h.2)) (subst (λ z. Goes goes_atom z) (sym h.2) refl)

pub property_read : (x p : List ℕ) (t : Lexeme) (r : List Lexeme) → any_name_in t ≡ Some p → named x (lex.Sign dot ∷ t ∷ r) ≡ Some (property x p, r)
unfolding named field
property_read x p t r e = rw e refl

name_sound : (x : List ℕ) (ts : List Lexeme) (y : Tree) (r : List Lexeme) → named x ts ≡ Some (y, r) → At at_atom y (lex.Name x ∷ ts) r
unfolding named
name_sound x ts y r e = go (field ts) refl (some_is (with_ending (λ e p. property x p) (name x) ts (field ts)) (y, r) e)
  where
    go : (o : Option (List ℕ × List Lexeme)) → field ts ≡ o → with_ending (λ e p. property x p) (name x) ts o ≡ (y, r) → At at_atom y (lex.Name x ∷ ts) r
    go None q e = subst (λ (z : Tree × List Lexeme). At at_atom z.0 (lex.Name x ∷ ts) z.1) e (record { ranked = omega arith; derived = refl })
    go (Some (p, s)) q e =
        let h = field_is ts p s q in
        subst (λ (z : Tree × List Lexeme). At at_atom z.0 (lex.Name x ∷ ts) z.1) e (record { ranked = omega arith; derived = (h.0, h.1, ap (λ (z : List Lexeme). lex.Name x ∷ z) h.2) })

-- [DISTINCT or ALL]

-- the word that a quantifier is
abbrev pub quantifier_word : SetQuantifier → ℕ
quantifier_word quantifier.Distinct = DISTINCT
quantifier_word quantifier.All = ALL

pub quantifier_is : (ts : List Lexeme) → IsQuantifier (quantifier_of ts).0 ts (quantifier_of ts).1
unfolding quantifier_of
quantifier_is ts = go (op_at quantifier_op ts) refl
  where
    of : (q : SetQuantifier) (t : Lexeme) (r : List Lexeme) → (x : List ℕ) × (t ≡ lex.Word (quantifier_word q) x) → ts ≡ t ∷ r → IsQuantifier q ts r
    of quantifier.Distinct t r h e = (h.0, e ∙ ap (λ (z : Lexeme). z ∷ r) h.1)
    of quantifier.All t r h e = inr (h.0, e ∙ ap (λ (z : Lexeme). z ∷ r) h.1)

    go : (o : Option (SetQuantifier × List Lexeme)) → op_at quantifier_op ts ≡ o → IsQuantifier (quantifier_or_all ts o).0 ts (quantifier_or_all ts o).1
    go None e = inl refl
    go (Some (q, r)) e =
        let b = read_begins quantifier_op ts q r e in
        of q b.0 r (word_row (λ t q. (x : List ℕ) × (t ≡ lex.Word (quantifier_word q) x)) quantifier_words (λ x. ((x, refl), ((x, refl), tt))) b.0 q b.1) b.2

-- COUNT(*)
pub star_is : (g : Aggregate) (ts a : List Lexeme) → star_of g ts ≡ Some a → (g ≡ aggregates.Count) × (ts ≡ lex.Sign star ∷ a)
star_is aggregates.Count ts a e = (refl, after_sign star ts a e)
star_is aggregates.Sum ts a e = absurd cc
star_is aggregates.Min ts a e = absurd cc
star_is aggregates.Max ts a e = absurd cc
star_is aggregates.CollectList ts a e = absurd cc

module _ (n : ℕ) (f : Reader Tree) (inner : Inner n f) where
  closed_sound : (ts : List Lexeme) (x : Tree) (r : List Lexeme) → closed_of f ts ≡ Some (x, r) → Is x ts (lex.Sign closing ∷ r)
  unfolding closed_of
  closed_sound ts x r e =
      let a = bind_some (f ts) (λ e. after (is_sign closing) e.1 >>= λ r. Some (e.0, r)) (x, r) e in
      let b = bind_some (after (is_sign closing) a.0.1) (λ r. Some (a.0.0, r)) (x, r) a.2 in
      subst (λ (z : Tree × List Lexeme). Is z.0 ts (lex.Sign closing ∷ z.1)) (some_is (a.0.0, b.0) (x, r) b.2)
      (subst (λ (z : List Lexeme). Is a.0.0 ts z) (after_sign closing a.0.1 b.0 b.1) (inner.sound ts a.0.0 a.0.1 a.1))

  paren_sound : (ts : List Lexeme) (x : Tree) (r : List Lexeme) → paren_of f ts ≡ Some (x, r) → At at_atom x (lex.Sign opening ∷ ts) r
  unfolding paren_of
  paren_sound ts x r e =
      let a = bind_some (closed_of f ts) (λ e. Some (paren e.0, e.1)) (x, r) e in
      subst (λ (z : Tree × List Lexeme). At at_atom z.0 (lex.Sign opening ∷ ts) z.1) (some_is (paren a.0.0, a.0.1) (x, r) a.2)
      (record { ranked = omega arith; derived = (ts, refl, closed_sound ts a.0.0 a.0.1 a.1) })

  listing_sound : (whole ts : List Lexeme) → OpensList whole ts → (x : Tree) (r : List Lexeme) → listing_of f ts ≡ Some (x, r) → At at_atom x whole r
  unfolding listing_of
  listing_sound whole ts opens x r e = go (after (is_sign closing_bracket) ts) refl e
    where
      as_items : (es : List Tree) (ts s : List Lexeme) → IsList (trees_of es) ts s → IsItems (trees_of es) ts s
      as_items [] ts s h = absurd h
      as_items (e ∷ es) ts s h = h

      go : (o : Option (List Lexeme)) → after (is_sign closing_bracket) ts ≡ o → empty_or_items f ts o ≡ Some (x, r) → At at_atom x whole r
      go (Some s) q e =
          subst (λ (z : Tree × List Lexeme). At at_atom z.0 whole z.1) (some_is (listing (trees_of []), s) (x, r) e)
          (record { ranked = omega arith; derived = (ts, opens, after_sign closing_bracket ts s q) })
      go None q e =
          let a = bind_some (list_of f ts) (λ es. after (is_sign closing_bracket) es.1 >>= λ r. Some (listing (trees_of es.0), r)) (x, r) e in
          let b = bind_some (after (is_sign closing_bracket) a.0.1) (λ r. Some (listing (trees_of a.0.0), r)) (x, r) a.2 in
          let closes = after_sign closing_bracket a.0.1 b.0 b.1 in
          subst (λ (z : Tree × List Lexeme). At at_atom z.0 whole z.1) (some_is (listing (trees_of a.0.0), b.0) (x, r) b.2)
          (record {
            ranked = omega arith;
            derived = (
              ts,
              opens,
              as_items a.0.0 ts (lex.Sign closing_bracket ∷ b.0) (subst (λ (z : List Lexeme). IsList (trees_of a.0.0) ts z) closes (list_sound n f inner ts a.0.0 a.0.1 a.1)),
            );
          })

  -- behind a word that begins an atom
  module _ (whole : List Lexeme) where
    word_listing_sound : (ts : List Lexeme) → Begins atom_word atom.List whole ts → (x : Tree) (r : List Lexeme) → word_listing_of f ts ≡ Some (x, r) → At at_atom x whole r
    unfolding word_listing_of
    word_listing_sound ts begins x r e =
        let a = bind_some (after (is_sign opening_bracket) ts) (λ a. listing_of f a) (x, r) e in
        listing_sound whole a.0 (inr (subst (λ (z : List Lexeme). Begins atom_word atom.List whole z) (after_sign opening_bracket ts a.0 a.1) begins)) x r a.2

    aggregate_sound : (g : Aggregate) (ts : List Lexeme) → Begins atom_word (atom.Aggregate g) whole ts → (x : Tree) (r : List Lexeme) → aggregate_of f g ts ≡ Some (x, r) → At at_atom x whole r
    unfolding aggregate_of
    aggregate_sound g ts begins x r e =
        let a = bind_some (after (is_sign opening) ts) (λ a. all_or_item f g a (star_of g a)) (x, r) e in
        go a.0 (star_of g a.0) refl (subst (λ (z : List Lexeme). Begins atom_word (atom.Aggregate g) whole z) (after_sign opening ts a.0 a.1) begins) a.2
      where
        go : (a : List Lexeme) (o : Option (List Lexeme)) → star_of g a ≡ o → Begins atom_word (atom.Aggregate g) whole (lex.Sign opening ∷ a) → all_or_item f g a o ≡ Some (x, r) → At at_atom x whole r
        go a (Some b) q begins e =
            let is_star = star_is g a b q in
            let c = bind_some (after (is_sign closing) b) (λ r. Some (count_all, r)) (x, r) e in
            let behind : a ≡ lex.Sign star ∷ lex.Sign closing ∷ c.0 = is_star.1 ∙ ap (λ (z : List Lexeme). lex.Sign star ∷ z) (after_sign closing b c.0 c.1) in
            subst (λ (z : Tree × List Lexeme). At at_atom z.0 whole z.1) (some_is (count_all, c.0) (x, r) c.2)
            (record {
              ranked = omega arith;
              derived = subst (λ (z : Aggregate). Begins atom_word (atom.Aggregate z) whole (lex.Sign opening ∷ lex.Sign star ∷ lex.Sign closing ∷ c.0)) is_star.0
                  (subst (λ (z : List Lexeme). Begins atom_word (atom.Aggregate g) whole (lex.Sign opening ∷ z)) behind begins);
            })
        go a None q begins e =
            let c = bind_some (closed_of f (quantifier_of a).1) (λ e. Some (aggregate g (quantifier_of a).0 e.0, e.1)) (x, r) e in
            subst (λ (z : Tree × List Lexeme). At at_atom z.0 whole z.1) (some_is (aggregate g (quantifier_of a).0 c.0.0, c.0.1) (x, r) c.2)
            (record { ranked = omega arith; derived = (a, (quantifier_of a).1, begins, quantifier_is a, closed_sound (quantifier_of a).1 c.0.0 c.0.1 c.1) })

    call_sound : (g : Function) (ts : List Lexeme) → Begins atom_word (atom.Call g) whole ts → (x : Tree) (r : List Lexeme) → call_of f g ts ≡ Some (x, r) → At at_atom x whole r
    unfolding call_of
    call_sound g ts begins x r e =
        let a = bind_some (after (is_sign opening) ts) (λ a. closed_of f a >>= λ e. Some (call g e.0, e.1)) (x, r) e in
        let b = bind_some (closed_of f a.0) (λ e. Some (call g e.0, e.1)) (x, r) a.2 in
        subst (λ (z : Tree × List Lexeme). At at_atom z.0 whole z.1) (some_is (call g b.0.0, b.0.1) (x, r) b.2)
        (record {
          ranked = omega arith;
          derived = (a.0, subst (λ (z : List Lexeme). Begins atom_word (atom.Call g) whole z) (after_sign opening ts a.0 a.1) begins, closed_sound a.0 b.0.0 b.0.1 b.1);
        })

  first_sound : (ts : List Lexeme) (x : Tree) (r : List Lexeme) → expr_before_comma_of f ts ≡ Some (x, r) → (a : List Lexeme) × (ts ≡ lex.Sign opening ∷ a) × Is x a (lex.Sign comma ∷ r)
  unfolding expr_before_comma_of
  first_sound ts x r e =
      let a = bind_some (after (is_sign opening) ts) (λ a. f a >>= λ e. after (is_sign comma) e.1 >>= λ r. Some (e.0, r)) (x, r) e in
      let b = bind_some (f a.0) (λ e. after (is_sign comma) e.1 >>= λ r. Some (e.0, r)) (x, r) a.2 in
      let c = bind_some (after (is_sign comma) b.0.1) (λ r. Some (b.0.0, r)) (x, r) b.2 in (
        a.0,
        after_sign opening ts a.0 a.1,
        subst (λ (z : Tree × List Lexeme). Is z.0 a.0 (lex.Sign comma ∷ z.1)) (some_is (b.0.0, c.0) (x, r) c.2)
            (subst (λ (z : List Lexeme). Is b.0.0 a.0 z) (after_sign comma b.0.1 c.0 c.1) (inner.sound a.0 b.0.0 b.0.1 b.1)),
      )

  module _ (whole : List Lexeme) where
    modulo_sound : (ts : List Lexeme) → Begins atom_word atom.Mod whole ts → (x : Tree) (r : List Lexeme) → modulo_of f ts ≡ Some (x, r) → At at_atom x whole r
    unfolding modulo_of
    modulo_sound ts begins x r e =
        let a = bind_some (expr_before_comma_of f ts) (λ e. closed_of f e.1 >>= λ d. Some (modulo e.0 d.0, d.1)) (x, r) e in
        let b = bind_some (closed_of f a.0.1) (λ d. Some (modulo a.0.0 d.0, d.1)) (x, r) a.2 in
        let first = first_sound ts a.0.0 a.0.1 a.1 in
        subst (λ (z : Tree × List Lexeme). At at_atom z.0 whole z.1) (some_is (modulo a.0.0 b.0.0, b.0.1) (x, r) b.2)
        (record {
          ranked = omega arith;
          derived = (first.0, a.0.1, subst (λ (z : List Lexeme). Begins atom_word atom.Mod whole z) first.1 begins, first.2, closed_sound a.0.1 b.0.0 b.0.1 b.1);
        })

    coalesce_sound : (ts : List Lexeme) → Begins atom_word atom.Coalesce whole ts → (x : Tree) (r : List Lexeme) → coalesce_of f ts ≡ Some (x, r) → At at_atom x whole r
    unfolding coalesce_of
    coalesce_sound ts begins x r e =
        let a = bind_some (expr_before_comma_of f ts) (λ e. list_of f e.1 >>= λ es. after (is_sign closing) es.1 >>= λ r. Some (coalesce e.0 (trees_of es.0), r)) (x, r) e in
        let b = bind_some (list_of f a.0.1) (λ es. after (is_sign closing) es.1 >>= λ r. Some (coalesce a.0.0 (trees_of es.0), r)) (x, r) a.2 in
        let c = bind_some (after (is_sign closing) b.0.1) (λ r. Some (coalesce a.0.0 (trees_of b.0.0), r)) (x, r) b.2 in
        let first = first_sound ts a.0.0 a.0.1 a.1 in
        subst (λ (z : Tree × List Lexeme). At at_atom z.0 whole z.1) (some_is (coalesce a.0.0 (trees_of b.0.0), c.0) (x, r) c.2)
        (record {
          ranked = omega arith;
          derived = (
            first.0,
            a.0.1,
            subst (λ (z : List Lexeme). Begins atom_word atom.Coalesce whole z) first.1 begins,
            first.2,
            subst (λ (z : List Lexeme). IsList (trees_of b.0.0) a.0.1 z) (after_sign closing b.0.1 c.0 c.1) (list_sound n f inner a.0.1 b.0.0 b.0.1 b.1),
          );
        })

    word_sound : (w : AtomWord) (ts : List Lexeme) → Begins atom_word w whole ts → (x : Tree) (r : List Lexeme) → word_atom_of f w ts ≡ Some (x, r) → At at_atom x whole r
    word_sound atom.True ts begins x r e = subst (λ (z : Tree × List Lexeme). At at_atom z.0 whole z.1) (some_is (constant (boolean true), ts) (x, r) e) (record { ranked = omega arith; derived = begins })
    word_sound atom.False ts begins x r e = subst (λ (z : Tree × List Lexeme). At at_atom z.0 whole z.1) (some_is (constant (boolean false), ts) (x, r) e) (record { ranked = omega arith; derived = begins })
    word_sound atom.Unknown ts begins x r e = subst (λ (z : Tree × List Lexeme). At at_atom z.0 whole z.1) (some_is (unknown, ts) (x, r) e) (record { ranked = omega arith; derived = begins })
    word_sound atom.Null ts begins x r e = subst (λ (z : Tree × List Lexeme). At at_atom z.0 whole z.1) (some_is (constant null, ts) (x, r) e) (record { ranked = omega arith; derived = begins })
    word_sound atom.List ts begins x r e = word_listing_sound whole ts begins x r e
    word_sound (atom.Aggregate g) ts begins x r e = aggregate_sound whole g ts begins x r e
    word_sound (atom.Call g) ts begins x r e = call_sound whole g ts begins x r e
    word_sound atom.Mod ts begins x r e = modulo_sound ts begins x r e
    word_sound atom.Coalesce ts begins x r e = coalesce_sound ts begins x r e

  pub atom_sound : Sound (At at_atom) (atom_of f)
  unfolding atom_of
  atom_sound [] x r e = absurd cc
  atom_sound (lex.Number y ∷ ts) x r e = subst (λ (z : Tree × List Lexeme). At at_atom z.0 (lex.Number y ∷ ts) z.1) (some_is (number y, ts) (x, r) e) (record { ranked = omega arith; derived = refl })
  atom_sound (lex.Chars y ∷ ts) x r e = subst (λ (z : Tree × List Lexeme). At at_atom z.0 (lex.Chars y ∷ ts) z.1) (some_is (constant (text y), ts) (x, r) e) (record { ranked = omega arith; derived = refl })
  atom_sound (lex.Param y ∷ ts) x r e = subst (λ (z : Tree × List Lexeme). At at_atom z.0 (lex.Param y ∷ ts) z.1) (some_is (parameter y, ts) (x, r) e) (record { ranked = omega arith; derived = refl })
  atom_sound (lex.Name y ∷ ts) x r e = name_sound y ts x r e
  atom_sound (lex.Sign place ∷ ts) x r e = go (nat_eq place opening) refl (nat_eq place opening_bracket) refl e
    where
      go : (b : Bool) → nat_eq place opening ≡ b → (c : Bool) → nat_eq place opening_bracket ≡ c → cond b (paren_of f ts) (cond c (listing_of f ts) None) ≡ Some (x, r) → At at_atom x (lex.Sign place ∷ ts) r
      go true p c q e = subst (λ (z : ℕ). At at_atom x (lex.Sign z ∷ ts) r) (sym (eqb-true place opening p)) (paren_sound ts x r e)
      go false p true q e = subst (λ (z : ℕ). At at_atom x (lex.Sign z ∷ ts) r) (sym (eqb-true place opening_bracket q)) (listing_sound (lex.Sign opening_bracket ∷ ts) ts (inl refl) x r e)
      go false p false q e = absurd cc
  atom_sound (lex.Word place y ∷ ts) x r e =
      let w = bind_some (entry atom_words place) (λ w. word_atom_of f w ts) (x, r) e in
      word_sound (lex.Word place y ∷ ts) w.0 ts (lex.Word place y, w.1, refl) x r w.2
