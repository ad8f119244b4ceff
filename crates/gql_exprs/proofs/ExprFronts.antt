-- A derivation of an expression rests on its front alone: the same front derives the same before anything.
use Rattle.std.proofs.Common.{ℕ, inl, inr, true, false, List, [], ◌∷◌, Option, refl}
use Rattle.gql_lexer.specs.declared.lexeme.Lexeme.{Lexeme}
use Rattle.gql_lexer.specs.declared.lexeme.Lexeme.TheVariants as lex
use Rattle.gql_values3.specs.Datum.{Datum, null, boolean, integer, text, list, node, edge, path}
use Rattle.gql_ast.specs.Tree.{Tree, Trees, Links, constant, unknown, number, parameter, name, property, paren, listing, count_all, aggregate, call, modulo, coalesce, signed, product, sum, comparing, test, label_test, end_test, negation, conjunction, disjunction, link, no_trees, more_trees, no_links, more_links}
use Rattle.gql_ast.specs.declared.words.Operator.{Operator}
use Rattle.gql_ast.specs.declared.words.Sense.{Sense}
use Rattle.gql_ast.specs.declared.words.Sense.TheVariants as sense
use Rattle.gql_ast.specs.declared.words.SetQuantifier.{SetQuantifier}
use Rattle.gql_ast.specs.declared.words.SetQuantifier.TheVariants as quantifier
use Rattle.gql_exprs.specs.declared.atom_word.AtomWord.TheVariants as atom
use Rattle.gql_exprs.specs.declared.test_word.TestWord.TheVariants as asked
use Rattle.gql_lexer.specs.SymbolPlaces.{opening, closing, opening_bracket, closing_bracket, comma, colon, dot, star}
use Rattle.gql_lexer.specs.WordPlaces.{ALL, DISTINCT, IS, NOT, OF}
use Rattle.gql_front.specs.Tables.{Begins}
use Rattle.gql_front.proofs.Fronts.{Front, Token, token, nothing, front_then, closed}
use Rattle.gql_front.proofs.TableLemmas.{begins_front}
use Rattle.gql_exprs.specs.ExprWords.{or_op, and_op, sum_op, product_op, sign_op, comparison_op, atom_word, test_word}
use Rattle.gql_exprs.specs.LabelGrammar.{IsLabel}
use Rattle.gql_exprs.specs.Grammar.{at_signed, at_product, at_not, at_and, IsConstant, OpensList, IsQuantifier, Asks, AsksLabels, Ending, has_quality, has_labels, is_end, IsEnding, Is, IsSteps, IsItems, IsList, IsOthers}
use Rattle.gql_exprs.proofs.LabelFronts.{label_front}

constant_front : (d : Datum) (ts r : List Lexeme) → IsConstant d ts r → Front (IsConstant d) ts r
constant_front (boolean true) ts r h = begins_front atom_word atom.True ts r h
constant_front (boolean false) ts r h = begins_front atom_word atom.False ts r h
constant_front null ts r h = begins_front atom_word atom.Null ts r h
constant_front (text x) ts r h = token (lex.Chars x) ts r h
constant_front (integer z) ts r h = absurd h
constant_front (list xs) ts r h = absurd h
constant_front (node v) ts r h = absurd h
constant_front (edge v) ts r h = absurd h
constant_front (path p) ts r h = absurd h

-- a lexeme that says something, and behind it a lexeme
begins_with : {A : Type 0} (says : Lexeme → Option A) (a : A) (t : Lexeme) (ts r : List Lexeme) → Begins says a ts (t ∷ r) → Front (λ s u. Begins says a s (t ∷ u)) ts r
begins_with says a t ts r h = record { front = h.0 ∷ t ∷ []; whole = h.2; alone = λ s. (h.0, h.1, refl) }

opening_front : (ts r : List Lexeme) → OpensList ts r → Front OpensList ts r
opening_front ts r (inl h) = record { front = lex.Sign opening_bracket ∷ []; whole = h; alone = λ s. inl refl }
opening_front ts r (inr h) = record { front = h.0 ∷ lex.Sign opening_bracket ∷ []; whole = h.2; alone = λ s. inr (h.0, h.1, refl) }

quantifier_front : (q : SetQuantifier) (ts r : List Lexeme) → IsQuantifier q ts r → Front (IsQuantifier q) ts r
quantifier_front quantifier.Distinct ts r h = record { front = lex.Word DISTINCT h.0 ∷ []; whole = h.1; alone = λ s. (h.0, refl) }
quantifier_front quantifier.All ts r (inl h) = record { front = []; whole = h; alone = λ s. inl refl }
quantifier_front quantifier.All ts r (inr h) = record { front = lex.Word ALL h.0 ∷ []; whole = h.1; alone = λ s. inr (h.0, refl) }

asks_front : (s : Sense) (ts r : List Lexeme) → Asks s ts r → Front (Asks s) ts r
asks_front sense.Is ts r h = record { front = lex.Word IS h.0 ∷ []; whole = h.1; alone = λ u. (h.0, refl) }
asks_front sense.IsNot ts r h = record { front = lex.Word IS h.0 ∷ lex.Word NOT h.1 ∷ []; whole = h.2; alone = λ u. (h.0, h.1, refl) }

asks_labels_front : (s : Sense) (ts r : List Lexeme) → AsksLabels s ts r → Front (AsksLabels s) ts r
asks_labels_front sense.Is ts r (inl h) = record { front = lex.Sign colon ∷ []; whole = h; alone = λ u. inl refl }
asks_labels_front sense.Is ts r (inr h) =
    front_then (Asks sense.Is) (Begins test_word asked.Labeled) (AsksLabels sense.Is) ts h.0 r (asks_front sense.Is ts h.0 h.1) (begins_front test_word asked.Labeled h.0 r h.2)
    (λ a b c p q. inr (b, p, q))
asks_labels_front sense.IsNot ts r h =
    front_then (Asks sense.IsNot) (Begins test_word asked.Labeled) (AsksLabels sense.IsNot) ts h.0 r (asks_front sense.IsNot ts h.0 h.1) (begins_front test_word asked.Labeled h.0 r h.2)
    (λ a b c p q. (b, p, q))

ending_front : (c : Ending) (ts r : List Lexeme) → IsEnding c ts r → Front (IsEnding c) ts r
ending_front (has_quality s q) ts r h =
    front_then (Asks s) (Begins test_word (asked.Quality q)) (IsEnding (has_quality s q)) ts h.0 r (asks_front s ts h.0 h.1) (begins_front test_word (asked.Quality q) h.0 r h.2)
    (λ a b c p q. (b, p, q))
ending_front (has_labels s l) ts r h =
    front_then (AsksLabels s) (IsLabel l) (IsEnding (has_labels s l)) ts h.0 r (asks_labels_front s ts h.0 h.1) (label_front l h.0 r h.2)
    (λ a b c p q. (b, p, q))
ending_front (is_end s end v) ts r h =
    front_then (Asks s) (λ a u. (x : List ℕ) × Begins test_word (asked.End end) a (lex.Word OF x ∷ lex.Name v ∷ u)) (IsEnding (is_end s end v)) ts h.0 r (asks_front s ts h.0 h.2)
    (record { front = h.3.0 ∷ lex.Word OF h.1 ∷ lex.Name v ∷ []; whole = h.3.2; alone = λ u. (h.1, (h.3.0, h.3.1, refl)) })
    (λ a b c p q. (b, q.0, p, q.1))

mutual
  pub front_of : (x : Tree) (ts r : List Lexeme) → Is x ts r → Front (Is x) ts r
  front_of (constant d) ts r h = constant_front d ts r h
  front_of unknown ts r h = begins_front atom_word atom.Unknown ts r h
  front_of (number digits) ts r h = token (lex.Number digits) ts r h
  front_of (parameter x) ts r h = token (lex.Param x) ts r h
  front_of (name x) ts r h = token (lex.Name x) ts r h
  front_of (property x p) ts r h = record { front = lex.Name x ∷ lex.Sign dot ∷ h.0 ∷ []; whole = h.2; alone = λ s. (h.0, h.1, refl) }
  front_of (paren e) ts r h =
      front_then (Token (lex.Sign opening)) (λ s u. Is e s (lex.Sign closing ∷ u)) (Is (paren e)) ts h.0 r (token (lex.Sign opening) ts h.0 h.1)
      (closed (Is e) (lex.Sign closing) h.0 r (front_of e h.0 (lex.Sign closing ∷ r) h.2)) (λ s t u p q. (t, p, q))
  front_of (listing es) ts r h =
      front_then OpensList (λ s u. IsItems es s (lex.Sign closing_bracket ∷ u)) (Is (listing es)) ts h.0 r (opening_front ts h.0 h.1)
      (closed (IsItems es) (lex.Sign closing_bracket) h.0 r (items_front es h.0 (lex.Sign closing_bracket ∷ r) h.2)) (λ s t u p q. (t, p, q))
  front_of count_all ts r h = record { front = h.0 ∷ lex.Sign opening ∷ lex.Sign star ∷ lex.Sign closing ∷ []; whole = h.2; alone = λ s. (h.0, h.1, refl) }
  front_of (aggregate g q e) ts r h =
      front_then (λ s u. Begins atom_word (atom.Aggregate g) s (lex.Sign opening ∷ u)) (λ s u. (b : List Lexeme) × IsQuantifier q s b × Is e b (lex.Sign closing ∷ u)) (Is (aggregate g q e)) ts h.0 r
      (begins_with atom_word (atom.Aggregate g) (lex.Sign opening) ts h.0 h.2)
      (front_then (IsQuantifier q) (λ s u. Is e s (lex.Sign closing ∷ u)) (λ s u. (b : List Lexeme) × IsQuantifier q s b × Is e b (lex.Sign closing ∷ u)) h.0 h.1 r
      (quantifier_front q h.0 h.1 h.3) (closed (Is e) (lex.Sign closing) h.1 r (front_of e h.1 (lex.Sign closing ∷ r) h.4)) (λ s t u p q. (t, p, q)))
      (λ s t u p q. (t, q.0, p, q.1, q.2))
  front_of (call f e) ts r h =
      front_then (λ s u. Begins atom_word (atom.Call f) s (lex.Sign opening ∷ u)) (λ s u. Is e s (lex.Sign closing ∷ u)) (Is (call f e)) ts h.0 r
      (begins_with atom_word (atom.Call f) (lex.Sign opening) ts h.0 h.1) (closed (Is e) (lex.Sign closing) h.0 r (front_of e h.0 (lex.Sign closing ∷ r) h.2)) (λ s t u p q. (t, p, q))
  front_of (modulo e d) ts r h =
      front_then (λ s u. Begins atom_word atom.Mod s (lex.Sign opening ∷ u)) (λ s u. (b : List Lexeme) × Is e s (lex.Sign comma ∷ b) × Is d b (lex.Sign closing ∷ u)) (Is (modulo e d)) ts h.0 r
      (begins_with atom_word atom.Mod (lex.Sign opening) ts h.0 h.2)
      (front_then (λ s u. Is e s (lex.Sign comma ∷ u)) (λ s u. Is d s (lex.Sign closing ∷ u)) (λ s u. (b : List Lexeme) × Is e s (lex.Sign comma ∷ b) × Is d b (lex.Sign closing ∷ u)) h.0 h.1 r
      (closed (Is e) (lex.Sign comma) h.0 h.1 (front_of e h.0 (lex.Sign comma ∷ h.1) h.3))
      (closed (Is d) (lex.Sign closing) h.1 r (front_of d h.1 (lex.Sign closing ∷ r) h.4)) (λ s t u p q. (t, p, q)))
      (λ s t u p q. (t, q.0, p, q.1, q.2))
  front_of (coalesce e es) ts r h =
      front_then (λ s u. Begins atom_word atom.Coalesce s (lex.Sign opening ∷ u)) (λ s u. (b : List Lexeme) × Is e s (lex.Sign comma ∷ b) × IsList es b (lex.Sign closing ∷ u)) (Is (coalesce e es)) ts h.0 r
      (begins_with atom_word atom.Coalesce (lex.Sign opening) ts h.0 h.2)
      (front_then (λ s u. Is e s (lex.Sign comma ∷ u)) (λ s u. IsList es s (lex.Sign closing ∷ u)) (λ s u. (b : List Lexeme) × Is e s (lex.Sign comma ∷ b) × IsList es b (lex.Sign closing ∷ u)) h.0 h.1 r
      (closed (Is e) (lex.Sign comma) h.0 h.1 (front_of e h.0 (lex.Sign comma ∷ h.1) h.3))
      (closed (IsList es) (lex.Sign closing) h.1 r (list_front es h.1 (lex.Sign closing ∷ r) h.4)) (λ s t u p q. (t, p, q)))
      (λ s t u p q. (t, q.0, p, q.1, q.2))
  front_of (signed o e) ts r h =
      front_then (Begins sign_op o) (Is e) (Is (signed o e)) ts h.1 r (begins_front sign_op o ts h.1 h.2) (front_of e h.1 r h.3) (λ s t u p q. (h.0, t, p, q))
  front_of (product e ls) ts r h =
      front_then (Is e) (IsSteps ls at_signed product_op) (Is (product e ls)) ts h.1 r (front_of e ts h.1 h.2) (steps_front ls at_signed product_op h.1 r h.4) (λ s t u p q. (h.0, t, p, h.3, q))
  front_of (sum e ls) ts r h =
      front_then (Is e) (IsSteps ls at_product sum_op) (Is (sum e ls)) ts h.1 r (front_of e ts h.1 h.2) (steps_front ls at_product sum_op h.1 r h.4) (λ s t u p q. (h.0, t, p, h.3, q))
  front_of (comparing c e d) ts r h =
      front_then (Is e) (λ s u. (a : List Lexeme) × Begins comparison_op c s a × Is d a u) (Is (comparing c e d)) ts h.2 r (front_of e ts h.2 h.4)
      (front_then (Begins comparison_op c) (Is d) (λ s u. (a : List Lexeme) × Begins comparison_op c s a × Is d a u) h.2 h.3 r
      (begins_front comparison_op c h.2 h.3 h.5) (front_of d h.3 r h.6) (λ s t u p q. (t, p, q)))
      (λ s t u p q. (h.0, h.1, t, q.0, p, q.1, q.2))
  front_of (test e o q) ts r h =
      front_then (Is e) (IsEnding (has_quality o q)) (Is (test e o q)) ts h.1 r (front_of e ts h.1 h.2) (ending_front (has_quality o q) h.1 r h.3) (λ s t u p q. (h.0, t, p, q))
  front_of (label_test e o l) ts r h =
      front_then (Is e) (IsEnding (has_labels o l)) (Is (label_test e o l)) ts h.1 r (front_of e ts h.1 h.2) (ending_front (has_labels o l) h.1 r h.3) (λ s t u p q. (h.0, t, p, q))
  front_of (end_test e o end v) ts r h =
      front_then (Is e) (IsEnding (is_end o end v)) (Is (end_test e o end v)) ts h.1 r (front_of e ts h.1 h.2) (ending_front (is_end o end v) h.1 r h.3) (λ s t u p q. (h.0, t, p, q))
  front_of (negation e) ts r h =
      front_then (Token (lex.Word NOT h.1)) (Is e) (Is (negation e)) ts h.2 r (token (lex.Word NOT h.1) ts h.2 h.3) (front_of e h.2 r h.4) (λ s t u p q. (h.0, h.1, t, p, q))
  front_of (conjunction e ls) ts r h =
      front_then (Is e) (IsSteps ls at_not and_op) (Is (conjunction e ls)) ts h.1 r (front_of e ts h.1 h.2) (steps_front ls at_not and_op h.1 r h.4) (λ s t u p q. (h.0, t, p, h.3, q))
  front_of (disjunction e ls) ts r h =
      front_then (Is e) (IsSteps ls at_and or_op) (Is (disjunction e ls)) ts h.1 r (front_of e ts h.1 h.2) (steps_front ls at_and or_op h.1 r h.4) (λ s t u p q. (h.0, t, p, h.3, q))

  steps_front : (ls : Links) (k : ℕ) (op : Lexeme → Option Operator) (ts r : List Lexeme) → IsSteps ls k op ts r → Front (IsSteps ls k op) ts r
  steps_front no_links k op ts r h = nothing (IsSteps no_links k op) ts r h (λ s. refl)
  steps_front (more_links (link o e) ls) k op ts r h =
      front_then (Begins op o) (λ s u. (m : List Lexeme) × Is e s m × IsSteps ls k op m u) (IsSteps (more_links (link o e) ls) k op) ts h.0 r (begins_front op o ts h.0 h.2)
      (front_then (Is e) (IsSteps ls k op) (λ s u. (m : List Lexeme) × Is e s m × IsSteps ls k op m u) h.0 h.1 r (front_of e h.0 h.1 h.4) (steps_front ls k op h.1 r h.5) (λ s t u p q. (t, p, q)))
      (λ s t u p q. (t, q.0, p, h.3, q.1, q.2))

  items_front : (es : Trees) (ts r : List Lexeme) → IsItems es ts r → Front (IsItems es) ts r
  items_front no_trees ts r h = nothing (IsItems no_trees) ts r h (λ s. refl)
  items_front (more_trees e es) ts r h =
      front_then (Is e) (IsOthers es) (IsItems (more_trees e es)) ts h.0 r (front_of e ts h.0 h.1) (others_front es h.0 r h.2) (λ s t u p q. (t, p, q))

  list_front : (es : Trees) (ts r : List Lexeme) → IsList es ts r → Front (IsList es) ts r
  list_front no_trees ts r h = absurd h
  list_front (more_trees e es) ts r h =
      front_then (Is e) (IsOthers es) (IsList (more_trees e es)) ts h.0 r (front_of e ts h.0 h.1) (others_front es h.0 r h.2) (λ s t u p q. (t, p, q))

  others_front : (es : Trees) (ts r : List Lexeme) → IsOthers es ts r → Front (IsOthers es) ts r
  others_front no_trees ts r h = nothing (IsOthers no_trees) ts r h (λ s. refl)
  others_front (more_trees e es) ts r h =
      front_then (Token (lex.Sign comma)) (λ s u. (m : List Lexeme) × Is e s m × IsOthers es m u) (IsOthers (more_trees e es)) ts h.0 r (token (lex.Sign comma) ts h.0 h.2)
      (front_then (Is e) (IsOthers es) (λ s u. (m : List Lexeme) × Is e s m × IsOthers es m u) h.0 h.1 r (front_of e h.0 h.1 h.3) (others_front es h.1 r h.4) (λ s t u p q. (t, p, q)))
      (λ s t u p q. (t, q.0, p, q.1, q.2))
