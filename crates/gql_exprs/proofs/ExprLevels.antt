-- Each level above the atoms is read soundly and completely, where the reader inside brackets is sound and complete.
use Rattle.std.proofs.Common.{◌≡◌, ℕ, ◌≤◌, inl, inr, Bool, true, false, List, ◌∷◌, length, Some, None, refl, sym, ap, subst, ◌∙◌, arith}
use Rattle.gql_lexer.specs.declared.lexeme.Lexeme.{Lexeme}
use Rattle.gql_lexer.specs.declared.lexeme.Lexeme.TheVariants as lex
use Rattle.gql_values3.specs.declared.comparison.Comparison.{Comparison}
use Rattle.gql_ast.specs.Tree.{Tree, Links, signed, product, sum, comparing, test, label_test, end_test, negation, conjunction, disjunction}
use Rattle.gql_ast.specs.declared.words.Operator.{Operator}
use Rattle.gql_ast.specs.declared.words.Sign.{Sign}
use Rattle.gql_lexer.specs.WordPlaces.{NOT}
use Rattle.gql_front.specs.Tables.{Begins}
use Rattle.gql_front.specs.Reading.{Reader, is_word, step, sequence, prefix, suffix}
use Rattle.gql_front.proofs.Found.{Goes, Found, Sound, Complete, Shrinks, is_there, exact_at, prefix_some, PrefixRead, prefix_none, prefix_split, SuffixRead, suffix_some, suffix_none, suffix_split, StepIs, step_goes, step_sound, step_complete, step_shrinks}
use Rattle.gql_front.proofs.LexemeTests.{word_is, cond_some_is}
use Rattle.gql_front.proofs.TableLemmas.{word_row, sign_row}
use Rattle.gql_exprs.specs.ExprWords.{or_words, or_op, and_words, and_op, sum_signs, sum_op, product_signs, product_op, signs, sign_op, comparison_signs, comparison_op}
use Rattle.gql_exprs.specs.Grammar.{at_signed, at_product, at_sum, at_comparison, at_test, at_not, at_and, at_or, Ending, has_quality, has_labels, is_end, IsEnding}
use Rattle.gql_exprs.specs.Machinery.LeafReaders.{not_op, negated, compared, other_side, tested, ending}
use Rattle.gql_exprs.specs.Machinery.Readers.{atom_of, signed_of, product_of, sum_of, comparison_of, test_of, not_of, and_of, or_of}
use Rattle.gql_exprs.proofs.LabelLevels.{goes_label}
use Rattle.gql_exprs.proofs.ExprChains.{At, at_shrinks, Reads, IsChain, SideOrChain, chain_reads}
use Rattle.gql_exprs.proofs.ExprLists.{goes_atom, goes_product, goes_sum, goes_comparison, begins_ending, goes_test, goes_and, goes_or, Inner}
use Rattle.gql_exprs.proofs.ExprAtomSound.{atom_sound}
use Rattle.gql_exprs.proofs.ExprAtomComplete.{atom_complete}
use Rattle.gql_exprs.proofs.ExprEndings.{ending_sound, ending_shrinks, ending_goes, ending_apart, ending_complete}

-- The operators of a level, and what the level of its sides goes on with, are apart

differ : (b : Bool) → b ≡ false → b ≡ true → ⊥
differ b e f = let g : false ≡ true = sym e ∙ f in cc

product_apart : (t : Lexeme) (o : Operator) → product_op t ≡ Some o → goes_atom t ≡ true → ⊥
product_apart t o e i = differ (goes_atom t) (sign_row (λ t o. goes_atom t ≡ false) product_signs (refl, (refl, tt)) t o e) i

sum_apart : (t : Lexeme) (o : Operator) → sum_op t ≡ Some o → goes_product t ≡ true → ⊥
sum_apart t o e i = differ (goes_product t) (sign_row (λ t o. goes_product t ≡ false) sum_signs (refl, (refl, (refl, tt))) t o e) i

comparison_apart : (c : Comparison) (ts r : List Lexeme) → Begins comparison_op c ts r → Goes goes_sum ts → ⊥
comparison_apart c ts r h i =
    let stop = sign_row (λ t c. goes_sum t ≡ false) comparison_signs (refl, (refl, (refl, (refl, (refl, (refl, tt)))))) h.0 c h.1 in
    differ (goes_sum h.0) stop (subst (λ z. Goes goes_sum z) h.2 i)

and_apart : (t : Lexeme) (o : Operator) → and_op t ≡ Some o → goes_test t ≡ true → ⊥
and_apart t o e i = differ (goes_test t) (word_row (λ t o. goes_test t ≡ false) and_words (λ x. (refl, tt)) t o e) i

or_apart : (t : Lexeme) (o : Operator) → or_op t ≡ Some o → goes_and t ≡ true → ⊥
or_apart t o e i = differ (goes_and t) (word_row (λ t o. goes_and t ≡ false) or_words (λ x. (refl, (refl, tt))) t o e) i

module _ (n : ℕ) (f : Reader Tree) (inner : Inner n f) where
  -- Signed

  sign_refused : (t : Lexeme) (ts : List Lexeme) (o : Sign) → sign_op t ≡ Some o → atom_of f (t ∷ ts) ≡ None
  unfolding atom_of
  sign_refused t ts o e = sign_row (λ t o. atom_of f (t ∷ ts) ≡ None) signs (refl, (refl, tt)) t o e

  pub signed_reads : Reads n at_signed goes_atom (signed_of f)
  unfolding signed_of
  signed_reads = record { sound = is_sound; complete = is_complete }
    where
      is_sound : Sound (At at_signed) (signed_of f)
      is_sound ts x r e = go (prefix_split sign_op signed (atom_of f) goes_atom ts x r e)
        where
          go : PrefixRead sign_op signed (atom_of f) ts x r → At at_signed x ts r
          go (inl p) = let h = atom_sound n f inner ts x r p in record { ranked = omega (arith, h.ranked); derived = h.derived }
          go (inr p) =
              let h = atom_sound n f inner p.1 p.3 r p.6 in
              subst (λ z. At at_signed z ts r) (sym p.7) (record { ranked = omega arith; derived = (h.ranked, p.1, (p.0, p.5, p.4), h.derived) })

      is_complete : Complete n (At at_signed) goes_atom (signed_of f)
      is_complete (signed o e) ts s le h =
          let d = h.derived in
          subst (λ z. Found (prefix sign_op signed (atom_of f) z) goes_atom (signed o e) s) (sym d.2.2)
          (prefix_some sign_op signed (atom_of f) goes_atom d.2.0 d.1 o e s d.2.1
          (atom_complete n f inner e d.1 s (omega (arith, ap length d.2.2)) (record { ranked = d.0; derived = d.3 })))
      is_complete y ts s le h =
          prefix_none sign_op signed (atom_of f) goes_atom sign_refused ts y s (atom_complete n f inner y ts s le (record { ranked = omega (arith, h.ranked); derived = h.derived }))

  -- Product and Sum

  pub product_reads : Reads n at_product goes_product (product_of f)
  unfolding product_of
  product_reads = chain_reads n at_signed at_product product_op (signed_of f) product goes_atom signed_reads (omega arith) made split product_apart
    where
      made : (e : Tree) (ls : Links) (ts r : List Lexeme) → IsChain at_signed product_op e ls ts r → At at_product (product e ls) ts r
      made e ls ts r h = record { ranked = omega arith; derived = (h.first.ranked, h.middle, h.first.derived, h.many, h.others) }

      split : (y : Tree) (ts s : List Lexeme) → At at_product y ts s → SideOrChain at_signed product_op product y ts s
      split (product e ls) ts s h = let d = h.derived in inr (e, ls, refl, record { middle = d.1; first = record { ranked = d.0; derived = d.2 }; many = d.3; others = d.4 })
      split y ts s h = inl (record { ranked = omega (arith, h.ranked); derived = h.derived })

  pub sum_reads : Reads n at_sum goes_sum (sum_of f)
  unfolding sum_of
  sum_reads = chain_reads n at_product at_sum sum_op (product_of f) sum goes_product product_reads (omega arith) made split sum_apart
    where
      made : (e : Tree) (ls : Links) (ts r : List Lexeme) → IsChain at_product sum_op e ls ts r → At at_sum (sum e ls) ts r
      made e ls ts r h = record { ranked = omega arith; derived = (h.first.ranked, h.middle, h.first.derived, h.many, h.others) }

      split : (y : Tree) (ts s : List Lexeme) → At at_sum y ts s → SideOrChain at_product sum_op sum y ts s
      split (sum e ls) ts s h = let d = h.derived in inr (e, ls, refl, record { middle = d.1; first = record { ranked = d.0; derived = d.2 }; many = d.3; others = d.4 })
      split y ts s h = inl (record { ranked = omega (arith, h.ranked); derived = h.derived })

  -- Comparison: a sum, and perhaps a sign and a second one

  abbrev SecondSide : Comparison × Tree → List Lexeme → List Lexeme → Type 0
  SecondSide c ts r = StepIs comparison_op (At at_sum) other_side c ts r

  second_sound : Sound SecondSide (step comparison_op (sum_of f) other_side)
  second_sound = step_sound comparison_op (sum_of f) other_side (At at_sum) sum_reads.sound

  second_shrinks : Shrinks (step comparison_op (sum_of f) other_side)
  second_shrinks = step_shrinks comparison_op (sum_of f) other_side (at_shrinks at_sum (sum_of f) sum_reads.sound)

  second_goes : (ts : List Lexeme) (x : (Comparison × Tree) × List Lexeme) → step comparison_op (sum_of f) other_side ts ≡ Some x → Goes (λ t. is_there (comparison_op t)) ts
  second_goes = step_goes comparison_op (sum_of f) other_side

  pub comparison_reads : Reads n at_comparison goes_comparison (comparison_of f)
  unfolding comparison_of
  comparison_reads = record { sound = is_sound; complete = is_complete }
    where
      made : (e x : Tree) (c : Comparison × Tree) (ts m r : List Lexeme) → At at_sum e ts m → SecondSide c m r → x ≡ compared e c → At at_comparison x ts r
      made e x c ts m r h k same =
          let one : At at_comparison (comparing k.operator e k.item) ts r = record {
            ranked = omega arith;
            derived = (h.ranked, k.derived.ranked, m, k.behind, h.derived, (k.token, k.is_operator, k.whole), k.derived.derived);
          } in
          subst (λ z. At at_comparison z ts r) (ap (λ (z : Comparison × Tree). compared e z) k.made ∙ sym same) one

      is_sound : Sound (At at_comparison) (comparison_of f)
      is_sound ts x r e = go (suffix_split (step comparison_op (sum_of f) other_side) compared (sum_of f) goes_sum (λ t. is_there (comparison_op t)) goes_sum second_shrinks second_goes ts x r e)
        where
          go : SuffixRead (step comparison_op (sum_of f) other_side) compared (sum_of f) ts x r → At at_comparison x ts r
          go (inl p) = let h = sum_reads.sound ts x r p in record { ranked = omega (arith, h.ranked); derived = h.derived }
          go (inr p) = made p.0 x p.2 ts p.1 r (sum_reads.sound ts p.0 p.1 p.3) (second_sound p.1 p.2 r p.4) p.5

      is_complete : Complete n (At at_comparison) goes_comparison (comparison_of f)
      is_complete (comparing c e k) ts s le h =
          let d = h.derived in
          let first = sum_reads.complete e ts d.2 le (record { ranked = d.0; derived = d.4 }) in
          let read = exact_at (sum_of f ts) goes_sum e d.2 first (comparison_apart c d.2 d.3 d.5) in
          let shorter = at_shrinks at_sum (sum_of f) sum_reads.sound ts e d.2 read in
          let second : SecondSide (c, k) d.2 s = record { token = d.5.0; behind = d.3; operator = c; item = k; made = refl; is_operator = d.5.1; whole = d.5.2; derived = record { ranked = d.1; derived = d.6 } } in
          suffix_some (step comparison_op (sum_of f) other_side) compared (sum_of f) goes_sum (λ t. is_there (comparison_op t)) goes_sum second_shrinks second_goes ts e d.2 (c, k) s read
          (step_complete comparison_op (sum_of f) other_side n (At at_sum) goes_sum sum_reads.complete (c, k) d.2 s (omega arith) second)
      is_complete y ts s le h =
          suffix_none (step comparison_op (sum_of f) other_side) compared (sum_of f) goes_sum (λ t. is_there (comparison_op t)) goes_sum second_shrinks second_goes ts y s
          (sum_reads.complete y ts s le (record { ranked = omega (arith, h.ranked); derived = h.derived }))

  -- Test: a comparison, and perhaps an ending

  test_found : (e : Tree) (c : Ending) (ts m s : List Lexeme) → length ts ≤ n → At at_comparison e ts m → IsEnding c m s → Found (suffix ending tested (comparison_of f) ts) goes_test (tested e c) s
  test_found e c ts m s le h k =
      let first = comparison_reads.complete e ts m le h in
      let read = exact_at (comparison_of f ts) goes_comparison e m first (ending_apart c m s k) in
      suffix_some ending tested (comparison_of f) goes_comparison begins_ending goes_label ending_shrinks ending_goes ts e m c s read (ending_complete (length m) c m s (omega arith) k)

  pub test_reads : Reads n at_test goes_test (test_of f)
  unfolding test_of
  test_reads = record { sound = is_sound; complete = is_complete }
    where
      made : (e : Tree) (c : Ending) (ts m r : List Lexeme) → At at_comparison e ts m → IsEnding c m r → At at_test (tested e c) ts r
      made e (has_quality o q) ts m r h k = record { ranked = omega arith; derived = (h.ranked, m, h.derived, k) }
      made e (has_labels o l) ts m r h k = record { ranked = omega arith; derived = (h.ranked, m, h.derived, k) }
      made e (is_end o end v) ts m r h k = record { ranked = omega arith; derived = (h.ranked, m, h.derived, k) }

      is_sound : Sound (At at_test) (test_of f)
      is_sound ts x r e = go (suffix_split ending tested (comparison_of f) goes_comparison begins_ending goes_label ending_shrinks ending_goes ts x r e)
        where
          go : SuffixRead ending tested (comparison_of f) ts x r → At at_test x ts r
          go (inl p) = let h = comparison_reads.sound ts x r p in record { ranked = omega (arith, h.ranked); derived = h.derived }
          go (inr p) = subst (λ z. At at_test z ts r) (sym p.5) (made p.0 p.2 ts p.1 r (comparison_reads.sound ts p.0 p.1 p.3) (ending_sound p.1 p.2 r p.4))

      is_complete : Complete n (At at_test) goes_test (test_of f)
      is_complete (test e o q) ts s le h = let d = h.derived in test_found e (has_quality o q) ts d.1 s le (record { ranked = d.0; derived = d.2 }) d.3
      is_complete (label_test e o l) ts s le h = let d = h.derived in test_found e (has_labels o l) ts d.1 s le (record { ranked = d.0; derived = d.2 }) d.3
      is_complete (end_test e o end v) ts s le h = let d = h.derived in test_found e (is_end o end v) ts d.1 s le (record { ranked = d.0; derived = d.2 }) d.3
      is_complete y ts s le h =
          suffix_none ending tested (comparison_of f) goes_comparison begins_ending goes_label ending_shrinks ending_goes ts y s
          (comparison_reads.complete y ts s le (record { ranked = omega (arith, h.ranked); derived = h.derived }))

  -- NOT

  not_refused : (t : Lexeme) (ts : List Lexeme) (o : Unit {0}) → not_op t ≡ Some o → test_of f (t ∷ ts) ≡ None
  unfolding test_of comparison_of suffix sum_of sequence product_of signed_of prefix atom_of
  not_refused t ts o e = let w = word_is NOT t (cond_some_is (is_word NOT t) tt o e).0 in ap (λ z. test_of f (z ∷ ts)) w.1

  pub not_reads : Reads n at_not goes_test (not_of f)
  unfolding not_of
  not_reads = record { sound = is_sound; complete = is_complete }
    where
      is_sound : Sound (At at_not) (not_of f)
      is_sound ts x r e = go (prefix_split not_op negated (test_of f) goes_test ts x r e)
        where
          go : PrefixRead not_op negated (test_of f) ts x r → At at_not x ts r
          go (inl p) = let h = test_reads.sound ts x r p in record { ranked = omega (arith, h.ranked); derived = h.derived }
          go (inr p) =
              let h = test_reads.sound p.1 p.3 r p.6 in
              let w = word_is NOT p.0 (cond_some_is (is_word NOT p.0) tt p.2 p.5).0 in
              subst (λ z. At at_not z ts r) (sym p.7) (record { ranked = omega arith; derived = (h.ranked, w.0, p.1, p.4 ∙ ap (λ (z : Lexeme). z ∷ p.1) w.1, h.derived) })

      is_complete : Complete n (At at_not) goes_test (not_of f)
      is_complete (negation e) ts s le h =
          let d = h.derived in
          subst (λ z. Found (prefix not_op negated (test_of f) z) goes_test (negation e) s) (sym d.3)
          (prefix_some not_op negated (test_of f) goes_test (lex.Word NOT d.1) d.2 tt e s refl (test_reads.complete e d.2 s (omega (arith, ap length d.3)) (record { ranked = d.0; derived = d.4 })))
      is_complete y ts s le h =
          prefix_none not_op negated (test_of f) goes_test not_refused ts y s (test_reads.complete y ts s le (record { ranked = omega (arith, h.ranked); derived = h.derived }))

  -- AND, and OR and XOR

  pub and_reads : Reads n at_and goes_and (and_of f)
  unfolding and_of
  and_reads = chain_reads n at_not at_and and_op (not_of f) conjunction goes_test not_reads (omega arith) made split and_apart
    where
      made : (e : Tree) (ls : Links) (ts r : List Lexeme) → IsChain at_not and_op e ls ts r → At at_and (conjunction e ls) ts r
      made e ls ts r h = record { ranked = omega arith; derived = (h.first.ranked, h.middle, h.first.derived, h.many, h.others) }

      split : (y : Tree) (ts s : List Lexeme) → At at_and y ts s → SideOrChain at_not and_op conjunction y ts s
      split (conjunction e ls) ts s h = let d = h.derived in inr (e, ls, refl, record { middle = d.1; first = record { ranked = d.0; derived = d.2 }; many = d.3; others = d.4 })
      split y ts s h = inl (record { ranked = omega (arith, h.ranked); derived = h.derived })

  pub or_reads : Reads n at_or goes_or (or_of f)
  unfolding or_of
  or_reads = chain_reads n at_and at_or or_op (and_of f) disjunction goes_and and_reads (omega arith) made split or_apart
    where
      made : (e : Tree) (ls : Links) (ts r : List Lexeme) → IsChain at_and or_op e ls ts r → At at_or (disjunction e ls) ts r
      made e ls ts r h = record { ranked = omega arith; derived = (h.first.ranked, h.middle, h.first.derived, h.many, h.others) }

      split : (y : Tree) (ts s : List Lexeme) → At at_or y ts s → SideOrChain at_and or_op disjunction y ts s
      split (disjunction e ls) ts s h = let d = h.derived in inr (e, ls, refl, record { middle = d.1; first = record { ranked = d.0; derived = d.2 }; many = d.3; others = d.4 })
      split y ts s h = inl (record { ranked = omega (arith, h.ranked); derived = h.derived })
