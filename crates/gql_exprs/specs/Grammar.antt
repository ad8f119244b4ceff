-- Expressions: which lexemes derive which.
--
--   Expr    = AndTerm {(OR or XOR) AndTerm}*
--   AndTerm = NotTerm {AND NotTerm}*
--   NotTerm = [NOT] Test
--   Test    = Cmp [":" LabelExpr, or IS [NOT] and one of NULL, TRUE, FALSE, UNKNOWN, DIRECTED, LABELED LabelExpr,
--             SOURCE OF Name, DESTINATION OF Name]
--   Cmp     = Sum [("=", "<>", "<", ">", "<=" or ">=") Sum]
--   Sum     = Product {("+", "-" or "||") Product}*
--   Product = Signed {("*" or "/") Signed}*
--   Signed  = ["+" or "-"] Atom
--   Atom    = a number, a string, TRUE, FALSE, UNKNOWN, NULL, a parameter, Name, Name "." a name or a reserved word,
--             "(" Expr ")", [LIST] "[" [Expr {"," Expr}*] "]", COUNT "(" "*" ")",
--             COUNT, SUM, MIN, MAX or COLLECT_LIST "(" [DISTINCT or ALL] Expr ")",
--             ABS, CHAR_LENGTH, CARDINALITY, PATH_LENGTH or ELEMENTS "(" Expr ")", MOD "(" Expr "," Expr ")",
--             COALESCE "(" Expr "," Expr {"," Expr}* ")"
use Rattle.std.specs.Prelude.{◌≡◌, ◌≤◌, ◌⊎◌, ℕ, true, false, List, [], ◌∷◌, Option, Some, ⊤}
use Rattle.gql_lexer.specs.declared.lexeme.Lexeme.{Lexeme}
use Rattle.gql_lexer.specs.declared.lexeme.Lexeme.TheVariants as lex
use Rattle.gql_values3.specs.Datum.{Datum, null, boolean, text}
use Rattle.gql_ast.specs.Label.{Label}
use Rattle.gql_ast.specs.Tree.{Tree, Trees, Links, constant, unknown, number, parameter, name, property, paren, listing, count_all, aggregate, call, modulo, coalesce, signed, product, sum, comparing, test, label_test, end_test, negation, conjunction, disjunction, link, no_trees, more_trees, no_links, more_links}
use Rattle.gql_ast.specs.declared.words.Aggregate.TheVariants as aggregates
use Rattle.gql_ast.specs.declared.words.EdgeEnd.{EdgeEnd}
use Rattle.gql_ast.specs.declared.words.Operator.{Operator}
use Rattle.gql_ast.specs.declared.words.Quality.{Quality}
use Rattle.gql_ast.specs.declared.words.Sense.{Sense}
use Rattle.gql_ast.specs.declared.words.Sense.TheVariants as sense
use Rattle.gql_ast.specs.declared.words.SetQuantifier.{SetQuantifier}
use Rattle.gql_ast.specs.declared.words.SetQuantifier.TheVariants as quantifier
use Rattle.gql_exprs.specs.declared.atom_word.AtomWord.TheVariants as atom
use Rattle.gql_exprs.specs.declared.test_word.TestWord.TheVariants as asked
use Rattle.gql_lexer.specs.SymbolPlaces.{opening, closing, opening_bracket, closing_bracket, comma, colon, dot, star}
use Rattle.gql_lexer.specs.WordPlaces.{ALL, DISTINCT, IS, NOT, OF}
use Rattle.gql_front.specs.Tables.{Begins}
use Rattle.gql_front.specs.Reading.{any_name_in}
use Rattle.gql_front.specs.Longest.{IsFrontOf}
use Rattle.gql_exprs.specs.ExprWords.{or_op, and_op, sum_op, product_op, sign_op, comparison_op, atom_word, test_word}
use Rattle.gql_exprs.specs.LabelGrammar.{IsLabel}

-- the levels, from what binds most: an atom has no operator outside of brackets
abbrev pub at_atom : ℕ
at_atom = 0

-- an atom behind a sign
abbrev pub at_signed : ℕ
at_signed = 1

-- a chain of `*` and `/`
abbrev pub at_product : ℕ
at_product = 2

-- a chain of `+`, `-` and `||`
abbrev pub at_sum : ℕ
at_sum = 3

-- two sums compared, which is no chain
abbrev pub at_comparison : ℕ
at_comparison = 4

-- a question behind IS or a colon
abbrev pub at_test : ℕ
at_test = 5

-- NOT before a test
abbrev pub at_not : ℕ
at_not = 6

-- a chain of AND
abbrev pub at_and : ℕ
at_and = 7

-- a chain of OR and XOR; no expression binds less
abbrev pub at_or : ℕ
at_or = 8

-- the level of an expression
abbrev pub rank : Tree → ℕ
rank (signed s e) = at_signed
rank (product e ls) = at_product
rank (sum e ls) = at_sum
rank (comparing c a b) = at_comparison
rank (test e s q) = at_test
rank (label_test e s l) = at_test
rank (end_test e s end v) = at_test
rank (negation e) = at_not
rank (conjunction e ls) = at_and
rank (disjunction e ls) = at_or
rank _ = at_atom

-- a chain has a second side
abbrev pub IsMany : Links → Type 0
IsMany no_links = ⊥
IsMany (more_links l ls) = ⊤

-- TRUE, FALSE, NULL and strings
abbrev pub IsConstant : Datum → List Lexeme → List Lexeme → Type 0
IsConstant (boolean true) ts r = Begins atom_word atom.True ts r
IsConstant (boolean false) ts r = Begins atom_word atom.False ts r
IsConstant null ts r = Begins atom_word atom.Null ts r
IsConstant (text x) ts r = ts ≡ lex.Chars x ∷ r
IsConstant _ ts r = ⊥

-- [LIST] "["
abbrev pub OpensList : List Lexeme → List Lexeme → Type 0
OpensList ts r = (ts ≡ lex.Sign opening_bracket ∷ r) ⊎ Begins atom_word atom.List ts (lex.Sign opening_bracket ∷ r)

-- [DISTINCT or ALL], where ALL says the same as no word
abbrev pub IsQuantifier : SetQuantifier → List Lexeme → List Lexeme → Type 0
IsQuantifier quantifier.Distinct ts r = (x : List ℕ) × (ts ≡ lex.Word DISTINCT x ∷ r)
IsQuantifier quantifier.All ts r = (ts ≡ r) ⊎ ((x : List ℕ) × (ts ≡ lex.Word ALL x ∷ r))

-- IS or IS NOT
abbrev pub Asks : Sense → List Lexeme → List Lexeme → Type 0
Asks sense.Is ts r = (x : List ℕ) × (ts ≡ lex.Word IS x ∷ r)
Asks sense.IsNot ts r = (x y : List ℕ) × (ts ≡ lex.Word IS x ∷ lex.Word NOT y ∷ r)

-- ":", IS LABELED or IS NOT LABELED: a colon says the same as IS LABELED
abbrev pub AsksLabels : Sense → List Lexeme → List Lexeme → Type 0
AsksLabels sense.Is ts r = (ts ≡ lex.Sign colon ∷ r) ⊎ ((a : List Lexeme) × Asks sense.Is ts a × Begins test_word asked.Labeled a r)
AsksLabels sense.IsNot ts r = (a : List Lexeme) × Asks sense.IsNot ts a × Begins test_word asked.Labeled a r

-- what may stand behind a comparison
pub data Ending : Type 0 where
  has_quality : Sense → Quality → Ending
  has_labels : Sense → Label → Ending
  is_end : Sense → EdgeEnd → List ℕ → Ending

-- the lexemes ts begin with some that are the ending, and behind those stands r
abbrev pub IsEnding : Ending → List Lexeme → List Lexeme → Type 0
IsEnding (has_quality s q) ts r = (a : List Lexeme) × Asks s ts a × Begins test_word (asked.Quality q) a r
IsEnding (has_labels s l) ts r = (a : List Lexeme) × AsksLabels s ts a × IsLabel l a r
IsEnding (is_end s end v) ts r = (a : List Lexeme) × (x : List ℕ) × Asks s ts a × Begins test_word (asked.End end) a (lex.Word OF x ∷ lex.Name v ∷ r)

abbrev mutual
  -- the lexemes ts begin with some that derive the expression, and behind those stands r
  pub Is : Tree → List Lexeme → List Lexeme → Type 0
  Is (constant d) ts r = IsConstant d ts r
  Is unknown ts r = Begins atom_word atom.Unknown ts r
  Is (number digits) ts r = ts ≡ lex.Number digits ∷ r
  Is (parameter x) ts r = ts ≡ lex.Param x ∷ r
  Is (name x) ts r = ts ≡ lex.Name x ∷ r
  Is (property x p) ts r = (t : Lexeme) × (any_name_in t ≡ Some p) × (ts ≡ lex.Name x ∷ lex.Sign dot ∷ t ∷ r)
  Is (paren e) ts r = (a : List Lexeme) × (ts ≡ lex.Sign opening ∷ a) × Is e a (lex.Sign closing ∷ r)
  Is (listing es) ts r = (a : List Lexeme) × OpensList ts a × IsItems es a (lex.Sign closing_bracket ∷ r)
  Is count_all ts r = Begins atom_word (atom.Aggregate aggregates.Count) ts (lex.Sign opening ∷ lex.Sign star ∷ lex.Sign closing ∷ r)
  Is (aggregate g q e) ts r = (a b : List Lexeme) × Begins atom_word (atom.Aggregate g) ts (lex.Sign opening ∷ a)
      × IsQuantifier q a b × Is e b (lex.Sign closing ∷ r)
  Is (call f e) ts r = (a : List Lexeme) × Begins atom_word (atom.Call f) ts (lex.Sign opening ∷ a) × Is e a (lex.Sign closing ∷ r)
  Is (modulo e d) ts r = (a b : List Lexeme) × Begins atom_word atom.Mod ts (lex.Sign opening ∷ a)
      × Is e a (lex.Sign comma ∷ b) × Is d b (lex.Sign closing ∷ r)
  Is (coalesce e es) ts r = (a b : List Lexeme) × Begins atom_word atom.Coalesce ts (lex.Sign opening ∷ a)
      × Is e a (lex.Sign comma ∷ b) × IsList es b (lex.Sign closing ∷ r)
  Is (signed s e) ts r = (rank e ≤ at_atom) × (a : List Lexeme) × Begins sign_op s ts a × Is e a r
  Is (product e ls) ts r = (rank e ≤ at_signed) × (m : List Lexeme) × Is e ts m × IsMany ls × IsSteps ls at_signed product_op m r
  Is (sum e ls) ts r = (rank e ≤ at_product) × (m : List Lexeme) × Is e ts m × IsMany ls × IsSteps ls at_product sum_op m r
  Is (comparing c e d) ts r = (rank e ≤ at_sum) × (rank d ≤ at_sum) × (m a : List Lexeme) × Is e ts m × Begins comparison_op c m a × Is d a r
  Is (test e s q) ts r = (rank e ≤ at_comparison) × (m : List Lexeme) × Is e ts m × IsEnding (has_quality s q) m r
  Is (label_test e s l) ts r = (rank e ≤ at_comparison) × (m : List Lexeme) × Is e ts m × IsEnding (has_labels s l) m r
  Is (end_test e s end v) ts r = (rank e ≤ at_comparison) × (m : List Lexeme) × Is e ts m × IsEnding (is_end s end v) m r
  Is (negation e) ts r = (rank e ≤ at_test) × (x : List ℕ) × (a : List Lexeme) × (ts ≡ lex.Word NOT x ∷ a) × Is e a r
  Is (conjunction e ls) ts r = (rank e ≤ at_not) × (m : List Lexeme) × Is e ts m × IsMany ls × IsSteps ls at_not and_op m r
  Is (disjunction e ls) ts r = (rank e ≤ at_and) × (m : List Lexeme) × Is e ts m × IsMany ls × IsSteps ls at_and or_op m r

  -- the further sides of a chain, each an operator and an expression of at most a level
  pub IsSteps : Links → ℕ → (Lexeme → Option Operator) → List Lexeme → List Lexeme → Type 0
  IsSteps no_links level op ts r = ts ≡ r
  IsSteps (more_links (link o e) ls) level op ts r = (a m : List Lexeme) × Begins op o ts a × (rank e ≤ level) × Is e a m × IsSteps ls level op m r

  -- any number of expressions, with commas between them
  pub IsItems : Trees → List Lexeme → List Lexeme → Type 0
  IsItems no_trees ts r = ts ≡ r
  IsItems (more_trees e es) ts r = (m : List Lexeme) × Is e ts m × IsOthers es m r

  -- one or more
  pub IsList : Trees → List Lexeme → List Lexeme → Type 0
  IsList no_trees ts r = ⊥
  IsList (more_trees e es) ts r = (m : List Lexeme) × Is e ts m × IsOthers es m r

  -- the further ones, each behind a comma
  pub IsOthers : Trees → List Lexeme → List Lexeme → Type 0
  IsOthers no_trees ts r = ts ≡ r
  IsOthers (more_trees e es) ts r = (a m : List Lexeme) × (ts ≡ lex.Sign comma ∷ a) × Is e a m × IsOthers es m r

-- the lexemes as a whole derive the expression
abbrev pub Derives : List Lexeme → Tree → Type 0
Derives ts x = Is x ts []

-- the lexemes from a place up to another derive the expression
abbrev pub IsFront : List Lexeme → ℕ → ℕ → Tree → Type 0
IsFront ts at j x = IsFrontOf Is ts at j x
