-- Lists of expressions between commas, and what is asked of the reader of expressions inside brackets.
use Rattle.std.proofs.Common.{◌≡◌, ℕ, ◌<◌, Bool, true, false, ◌||◌, List, ◌∷◌, length, Some, None, refl, sym, ap, subst, ◌∙◌, arith}
use Rattle.gql_lexer.specs.declared.lexeme.Lexeme.{Lexeme}
use Rattle.gql_lexer.specs.declared.lexeme.Lexeme.TheVariants as lex
use Rattle.gql_ast.specs.Tree.{Tree, Trees, trees_of, items_of_trees, no_trees, more_trees}
use Rattle.gql_lexer.specs.SymbolPlaces.{comma, colon, dot, star, closing_bracket}
use Rattle.gql_lexer.specs.WordPlaces.{IS, ALL, DISTINCT}
use Rattle.gql_front.specs.Reading.{Reader, is_sign, is_word, step}
use Rattle.gql_front.proofs.Found.{Found, Sound, Complete, Shrinks, is_there, StepIs, step_goes, step_sound, step_complete}
use Rattle.gql_front.proofs.Chains.{Consumes, Many, operators_apart, sequence_read, sequence_found}
use Rattle.gql_front.proofs.LexemeTests.{cond_some_is, sign_is}
use Rattle.gql_exprs.specs.ExprWords.{product_op, sum_op, comparison_op, and_op, or_op}
use Rattle.gql_exprs.specs.Grammar.{Is, IsList, IsOthers}
use Rattle.gql_exprs.specs.Machinery.LeafReaders.{comma_op, operand, items}
use Rattle.gql_exprs.specs.Machinery.Readers.{list_of}
use Rattle.gql_exprs.proofs.LabelLevels.{goes_label}
use Rattle.gql_exprs.proofs.ExprChains.{trees_of-items_of_trees}
use Rattle.gql_exprs.proofs.ExprShorter.{is_shorter}

-- With which lexemes an expression of each level may go on

abbrev pub goes_atom : Lexeme → Bool
goes_atom t = is_sign dot t

abbrev pub goes_product : Lexeme → Bool
goes_product t = goes_atom t || is_there (product_op t)

abbrev pub goes_sum : Lexeme → Bool
goes_sum t = goes_product t || is_there (sum_op t)

abbrev pub goes_comparison : Lexeme → Bool
goes_comparison t = (goes_sum t || is_there (comparison_op t)) || goes_sum t

abbrev pub begins_ending : Lexeme → Bool
begins_ending t = is_sign colon t || is_word IS t

abbrev pub goes_test : Lexeme → Bool
goes_test t = (goes_comparison t || begins_ending t) || goes_label t

abbrev pub goes_and : Lexeme → Bool
goes_and t = goes_test t || is_there (and_op t)

abbrev pub goes_or : Lexeme → Bool
goes_or t = goes_and t || is_there (or_op t)

abbrev pub goes_list : Lexeme → Bool
goes_list t = goes_or t || is_there (comma_op t)

-- a reader of all expressions, on fewer than n lexemes; no expression begins with `]`, `*`, ALL or DISTINCT
pub record Inner (n : ℕ) (f : Reader Tree) : Type 0 where
  pub sound : Sound Is f
  pub complete : (y : Tree) (ts s : List Lexeme) → length ts < n → Is y ts s → Found (f ts) goes_or y s
  pub refuses_bracket : (s : List Lexeme) → f (lex.Sign closing_bracket ∷ s) ≡ None
  pub refuses_star : (s : List Lexeme) → f (lex.Sign star ∷ s) ≡ None
  pub refuses_all : (x : List ℕ) (s : List Lexeme) → f (lex.Word ALL x ∷ s) ≡ None
  pub refuses_distinct : (x : List ℕ) (s : List Lexeme) → f (lex.Word DISTINCT x ∷ s) ≡ None

comma_is : (t : Lexeme) (o : Unit {0}) → comma_op t ≡ Some o → t ≡ lex.Sign comma
comma_is t o e = sign_is comma t (cond_some_is (is_sign comma t) tt o e).0

abbrev OthersAre : List Tree → List Lexeme → List Lexeme → Type 0
OthersAre es ts r = IsOthers (trees_of es) ts r

others_are : Many (StepIs comma_op Is operand) OthersAre
others_are = record { none = λ r. refl; is_none = λ ts r h. h; more = more; is_more = is_more }
  where
    more : (c : Tree) (cs : List Tree) (ts m r : List Lexeme) → StepIs comma_op Is operand c ts m → OthersAre cs m r → OthersAre (c ∷ cs) ts r
    more c cs ts m r h l = (h.behind, m, h.whole ∙ ap (λ (u : Lexeme). u ∷ h.behind) (comma_is h.token h.operator h.is_operator), subst (λ z. Is z h.behind m) h.made h.derived, l)

    is_more : (c : Tree) (cs : List Tree) (ts r : List Lexeme) → OthersAre (c ∷ cs) ts r → (m : List Lexeme) × StepIs comma_op Is operand c ts m × OthersAre cs m r
    is_more c cs ts r h = (h.1, record { token = lex.Sign comma; behind = h.0; operator = tt; item = c; made = refl; is_operator = refl; whole = h.2; derived = h.3 }, h.4)

other_consumes : Consumes (StepIs comma_op Is operand)
other_consumes c ts r h = omega (arith, ap length h.whole, is_shorter h.item h.behind r h.derived)

comma_apart : (t : Lexeme) (o : Unit {0}) → comma_op t ≡ Some o → goes_or t ≡ true → ⊥
comma_apart t o e h = let q = ap goes_or (comma_is t o e) in let f : goes_or (lex.Sign comma) ≡ false = refl in cc

module _ (n : ℕ) (f : Reader Tree) (inner : Inner n f) where
  pub shrinks : Shrinks f
  shrinks ts x r e = is_shorter x ts r (inner.sound ts x r e)

  pub list_sound : (ts : List Lexeme) (es : List Tree) (r : List Lexeme) → list_of f ts ≡ Some (es, r) → IsList (trees_of es) ts r
  unfolding list_of
  list_sound ts es r e =
      let h = sequence_read f (step comma_op f operand) items Is (StepIs comma_op Is operand) OthersAre others_are inner.sound (step_sound comma_op f operand Is inner.sound) ts es r e in
      subst (λ z. IsList (trees_of z) ts r) (sym h.built) (h.middle, h.is_first, h.are_others)

  complete_to : (m : ℕ) → m < n → Complete m Is goes_or f
  complete_to m le y ts s l h = inner.complete y ts s (omega arith) h

  pub list_found : (es : Trees) (ts s : List Lexeme) → length ts < n → IsList es ts s → Found (list_of f ts) goes_list (items_of_trees es) s
  unfolding list_of
  list_found no_trees ts s le h = absurd h
  list_found (more_trees e es) ts s le h =
      sequence_found f (step comma_op f operand) items Is (StepIs comma_op Is operand) OthersAre others_are inner.sound (step_sound comma_op f operand Is inner.sound) is_shorter other_consumes
      (length ts) goes_or (λ t. is_there (comma_op t)) (complete_to (length ts) le) (step_complete comma_op f operand (length ts) Is goes_or (complete_to (length ts) le))
      (operators_apart goes_or comma_op Is operand comma_apart) (step_goes comma_op f operand) e (items_of_trees es) ts h.0 s (omega arith) h.1
      (subst (λ z. IsOthers z h.0 s) (sym (trees_of-items_of_trees es)) h.2)
