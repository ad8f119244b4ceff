-- What derives an expression takes a lexeme at least.
use Rattle.std.proofs.Common.{ℕ, ◌<◌, ◌≤◌, inl, inr, true, false, List, ◌∷◌, length, Option, ap, arith}
use Rattle.gql_lexer.specs.declared.lexeme.Lexeme.{Lexeme}
use Rattle.gql_lexer.specs.declared.lexeme.Lexeme.TheVariants as lex
use Rattle.gql_values3.specs.Datum.{Datum, null, boolean, integer, text, list, node, edge, path}
use Rattle.gql_ast.specs.Tree.{Tree, Trees, Links, constant, unknown, number, parameter, name, property, paren, listing, count_all, aggregate, call, modulo, coalesce, signed, product, sum, comparing, test, label_test, end_test, negation, conjunction, disjunction, link, no_trees, more_trees, no_links, more_links}
use Rattle.gql_ast.specs.declared.words.Aggregate.TheVariants as aggregates
use Rattle.gql_ast.specs.declared.words.Operator.{Operator}
use Rattle.gql_ast.specs.declared.words.Sense.{Sense}
use Rattle.gql_ast.specs.declared.words.Sense.TheVariants as sense
use Rattle.gql_ast.specs.declared.words.SetQuantifier.{SetQuantifier}
use Rattle.gql_ast.specs.declared.words.SetQuantifier.TheVariants as quantifier
use Rattle.gql_exprs.specs.declared.atom_word.AtomWord.TheVariants as atom
use Rattle.gql_exprs.specs.declared.test_word.TestWord.TheVariants as asked
use Rattle.gql_lexer.specs.SymbolPlaces.{opening, closing, opening_bracket, closing_bracket, comma, star}
use Rattle.gql_lexer.specs.WordPlaces.{OF}
use Rattle.gql_front.proofs.TableLemmas.{begins_shorter}
use Rattle.gql_exprs.specs.ExprWords.{or_op, and_op, sum_op, product_op, sign_op, comparison_op, atom_word, test_word}
use Rattle.gql_exprs.specs.Grammar.{at_signed, at_product, at_not, at_and, IsConstant, OpensList, IsQuantifier, Asks, AsksLabels, Ending, has_quality, has_labels, is_end, IsEnding, Is, IsSteps, IsItems, IsList, IsOthers}
use Rattle.gql_exprs.proofs.LabelLevels.{label_consumes}

constant_shorter : (d : Datum) (ts r : List Lexeme) → IsConstant d ts r → length r < length ts
constant_shorter (boolean true) ts r h = begins_shorter atom_word atom.True ts r h
constant_shorter (boolean false) ts r h = begins_shorter atom_word atom.False ts r h
constant_shorter null ts r h = begins_shorter atom_word atom.Null ts r h
constant_shorter (text x) ts r h = omega (arith, ap length h)
constant_shorter (integer z) ts r h = absurd h
constant_shorter (list xs) ts r h = absurd h
constant_shorter (node v) ts r h = absurd h
constant_shorter (edge v) ts r h = absurd h
constant_shorter (path p) ts r h = absurd h

opening_shorter : (ts r : List Lexeme) → OpensList ts r → length r < length ts
opening_shorter ts r (inl h) = omega (arith, ap length h)
opening_shorter ts r (inr h) = omega (arith, begins_shorter atom_word atom.List ts (lex.Sign opening_bracket ∷ r) h)

quantifier_shorter : (q : SetQuantifier) (ts r : List Lexeme) → IsQuantifier q ts r → length r ≤ length ts
quantifier_shorter quantifier.Distinct ts r h = omega (arith, ap length h.1)
quantifier_shorter quantifier.All ts r (inl h) = omega (arith, ap length h)
quantifier_shorter quantifier.All ts r (inr h) = omega (arith, ap length h.1)

asks_shorter : (s : Sense) (ts r : List Lexeme) → Asks s ts r → length r < length ts
asks_shorter sense.Is ts r h = omega (arith, ap length h.1)
asks_shorter sense.IsNot ts r h = omega (arith, ap length h.2)

asks_labels_shorter : (s : Sense) (ts r : List Lexeme) → AsksLabels s ts r → length r < length ts
asks_labels_shorter sense.Is ts r (inl h) = omega (arith, ap length h)
asks_labels_shorter sense.Is ts r (inr h) = omega (arith, asks_shorter sense.Is ts h.0 h.1, begins_shorter test_word asked.Labeled h.0 r h.2)
asks_labels_shorter sense.IsNot ts r h = omega (arith, asks_shorter sense.IsNot ts h.0 h.1, begins_shorter test_word asked.Labeled h.0 r h.2)

pub ending_shorter : (c : Ending) (ts r : List Lexeme) → IsEnding c ts r → length r < length ts
ending_shorter (has_quality s q) ts r h = omega (arith, asks_shorter s ts h.0 h.1, begins_shorter test_word (asked.Quality q) h.0 r h.2)
ending_shorter (has_labels s l) ts r h = omega (arith, asks_labels_shorter s ts h.0 h.1, label_consumes l h.0 r h.2)
ending_shorter (is_end s end v) ts r h = omega (arith, asks_shorter s ts h.0 h.2, begins_shorter test_word (asked.End end) h.0 (lex.Word OF h.1 ∷ lex.Name v ∷ r) h.3)

mutual
  pub is_shorter : (x : Tree) (ts r : List Lexeme) → Is x ts r → length r < length ts
  is_shorter (constant d) ts r h = constant_shorter d ts r h
  is_shorter unknown ts r h = begins_shorter atom_word atom.Unknown ts r h
  is_shorter (number digits) ts r h = omega (arith, ap length h)
  is_shorter (parameter x) ts r h = omega (arith, ap length h)
  is_shorter (name x) ts r h = omega (arith, ap length h)
  is_shorter (property x p) ts r h = omega (arith, ap length h.2)
  is_shorter (paren e) ts r h = omega (arith, ap length h.1, is_shorter e h.0 (lex.Sign closing ∷ r) h.2)
  is_shorter (listing es) ts r h = omega (arith, opening_shorter ts h.0 h.1, items_shorter es h.0 (lex.Sign closing_bracket ∷ r) h.2)
  is_shorter count_all ts r h = omega (arith, begins_shorter atom_word (atom.Aggregate aggregates.Count) ts (lex.Sign opening ∷ lex.Sign star ∷ lex.Sign closing ∷ r) h)
  is_shorter (aggregate g q e) ts r h =
      omega (arith, begins_shorter atom_word (atom.Aggregate g) ts (lex.Sign opening ∷ h.0) h.2, quantifier_shorter q h.0 h.1 h.3, is_shorter e h.1 (lex.Sign closing ∷ r) h.4)
  is_shorter (call f e) ts r h = omega (arith, begins_shorter atom_word (atom.Call f) ts (lex.Sign opening ∷ h.0) h.1, is_shorter e h.0 (lex.Sign closing ∷ r) h.2)
  is_shorter (modulo e d) ts r h =
      omega (arith, begins_shorter atom_word atom.Mod ts (lex.Sign opening ∷ h.0) h.2, is_shorter e h.0 (lex.Sign comma ∷ h.1) h.3, is_shorter d h.1 (lex.Sign closing ∷ r) h.4)
  is_shorter (coalesce e es) ts r h =
      omega (arith, begins_shorter atom_word atom.Coalesce ts (lex.Sign opening ∷ h.0) h.2, is_shorter e h.0 (lex.Sign comma ∷ h.1) h.3, list_shorter es h.1 (lex.Sign closing ∷ r) h.4)
  is_shorter (signed s e) ts r h = omega (arith, begins_shorter sign_op s ts h.1 h.2, is_shorter e h.1 r h.3)
  is_shorter (product e ls) ts r h = omega (arith, is_shorter e ts h.1 h.2, steps_shorter ls at_signed product_op h.1 r h.4)
  is_shorter (sum e ls) ts r h = omega (arith, is_shorter e ts h.1 h.2, steps_shorter ls at_product sum_op h.1 r h.4)
  is_shorter (comparing c e d) ts r h = omega (arith, is_shorter e ts h.2 h.4, begins_shorter comparison_op c h.2 h.3 h.5, is_shorter d h.3 r h.6)
  is_shorter (test e s q) ts r h = omega (arith, is_shorter e ts h.1 h.2, ending_shorter (has_quality s q) h.1 r h.3)
  is_shorter (label_test e s l) ts r h = omega (arith, is_shorter e ts h.1 h.2, ending_shorter (has_labels s l) h.1 r h.3)
  is_shorter (end_test e s end v) ts r h = omega (arith, is_shorter e ts h.1 h.2, ending_shorter (is_end s end v) h.1 r h.3)
  is_shorter (negation e) ts r h = omega (arith, ap length h.3, is_shorter e h.2 r h.4)
  is_shorter (conjunction e ls) ts r h = omega (arith, is_shorter e ts h.1 h.2, steps_shorter ls at_not and_op h.1 r h.4)
  is_shorter (disjunction e ls) ts r h = omega (arith, is_shorter e ts h.1 h.2, steps_shorter ls at_and or_op h.1 r h.4)

  steps_shorter : (ls : Links) (k : ℕ) (op : Lexeme → Option Operator) (ts r : List Lexeme) → IsSteps ls k op ts r → length r ≤ length ts
  steps_shorter no_links k op ts r h = omega (arith, ap length h)
  steps_shorter (more_links (link o e) ls) k op ts r h = omega (arith, begins_shorter op o ts h.0 h.2, is_shorter e h.0 h.1 h.4, steps_shorter ls k op h.1 r h.5)

  items_shorter : (es : Trees) (ts r : List Lexeme) → IsItems es ts r → length r ≤ length ts
  items_shorter no_trees ts r h = omega (arith, ap length h)
  items_shorter (more_trees e es) ts r h = omega (arith, is_shorter e ts h.0 h.1, others_shorter es h.0 r h.2)

  list_shorter : (es : Trees) (ts r : List Lexeme) → IsList es ts r → length r ≤ length ts
  list_shorter no_trees ts r h = absurd h
  list_shorter (more_trees e es) ts r h = omega (arith, is_shorter e ts h.0 h.1, others_shorter es h.0 r h.2)

  others_shorter : (es : Trees) (ts r : List Lexeme) → IsOthers es ts r → length r ≤ length ts
  others_shorter no_trees ts r h = omega (arith, ap length h)
  others_shorter (more_trees e es) ts r h = omega (arith, ap length h.2, is_shorter e h.0 h.1 h.3, others_shorter es h.1 r h.4)
