-- Path pattern expressions: which lexemes derive which.
--
--   PathExpr   = PathTerm {"|" PathTerm}*; PathTerm "|+|" PathTerm {"|+|" PathTerm}*
--   PathTerm   = PathFactor {PathFactor}*
--   PathFactor = Primary [Quantifier; "?"]
--   Primary    = "(" Filler ")"; EdgePattern; "(" [Mode [P]] PathExpr [WHERE Expr] ")"
use Rattle.std.specs.Prelude.{◌≡◌, ◌≤◌, ℕ, List, Option, option_map, ⊤}
use Rattle.gql_lexer.specs.declared.lexeme.Lexeme.{Lexeme}
use Rattle.gql_lexer.specs.SymbolPlaces.{opening, closing, question, bar, multiset_bar}
use Rattle.gql_ast.specs.Tree.{Tree}
use Rattle.gql_ast.specs.Filler.{FillerTree}
use Rattle.gql_ast.specs.Meaning.{tree_of}
use Rattle.gql_ast.specs.Pattern.{Pattern, Patterns, node, edge, paren, repeated, optional, sequence, alternation, multiset_alternation, no_patterns, more_patterns}
use Rattle.gql_front.specs.Reading.{is_sign}
use Rattle.gql_parts.specs.Parts.{Passes, IsOptional}
use Rattle.gql_parts.specs.FillerGrammar.{IsWhere}
use Rattle.gql_patterns.specs.EdgeGrammar.{Means, IsFilling, IsEdge}
use Rattle.gql_patterns.specs.QuantifierGrammar.{IsQuantifier}
use Rattle.gql_patterns.specs.PrefixGrammar.{IsMode}

-- the levels, from what binds most: a node, an edge, or what stands in parentheses
abbrev pub at_primary : ℕ
at_primary = 0

-- a primary with a quantifier or a question mark
abbrev pub at_factor : ℕ
at_factor = 1

-- factors behind one another
abbrev pub at_term : ℕ
at_term = 2

-- sides beside each other, between `|` or between `|+|`; no path pattern binds less
abbrev pub at_expression : ℕ
at_expression = 3

-- the level of a path pattern
abbrev pub level : Pattern → ℕ
level (node f) = at_primary
level (edge d f) = at_primary
level (paren m x c) = at_primary
level (repeated x q) = at_factor
level (optional x) = at_factor
level (sequence x xs) = at_term
level (alternation x xs) = at_expression
level (multiset_alternation x xs) = at_expression

-- a chain has a second side
abbrev pub HasSides : Patterns → Type 0
HasSides no_patterns = ⊥
HasSides (more_patterns x xs) = ⊤

-- "(" Filler ")", behind the opening parenthesis
abbrev pub IsNode : FillerTree → List Lexeme → List Lexeme → Type 0
IsNode f ts r = (a : List Lexeme) × IsFilling f ts a × Passes (is_sign closing) a r

-- [WHERE Expr]
abbrev pub MayHold : Option Tree → List Lexeme → List Lexeme → Type 0
MayHold = Means (option_map tree_of) (IsOptional IsWhere)

abbrev mutual
  -- the lexemes ts begin with some that derive the path pattern, and behind those stands r
  pub IsPath : Pattern → List Lexeme → List Lexeme → Type 0
  IsPath (node f) ts r = (a : List Lexeme) × Passes (is_sign opening) ts a × IsNode f a r
  IsPath (edge d f) ts r = IsEdge d f ts r
  IsPath (paren m x c) ts r =
      (a : List Lexeme) × Passes (is_sign opening) ts a × (b : List Lexeme) × IsOptional IsMode m a b
      × (d : List Lexeme) × IsPath x b d × (e : List Lexeme) × MayHold c d e × Passes (is_sign closing) e r
  IsPath (repeated x q) ts r = (level x ≤ at_primary) × (m : List Lexeme) × IsPath x ts m × IsQuantifier q m r
  IsPath (optional x) ts r = (level x ≤ at_primary) × (m : List Lexeme) × IsPath x ts m × Passes (is_sign question) m r
  IsPath (sequence x xs) ts r = (level x ≤ at_factor) × (m : List Lexeme) × IsPath x ts m × HasSides xs × AreFactors xs m r
  IsPath (alternation x xs) ts r = (level x ≤ at_term) × (m : List Lexeme) × IsPath x ts m × HasSides xs × AreSides xs bar m r
  IsPath (multiset_alternation x xs) ts r = (level x ≤ at_term) × (m : List Lexeme) × IsPath x ts m × HasSides xs × AreSides xs multiset_bar m r

  -- factors behind one another
  pub AreFactors : Patterns → List Lexeme → List Lexeme → Type 0
  AreFactors no_patterns ts r = ts ≡ r
  AreFactors (more_patterns x xs) ts r = (level x ≤ at_factor) × (m : List Lexeme) × IsPath x ts m × AreFactors xs m r

  -- the further sides of a chain, each a symbol and a term
  pub AreSides : Patterns → ℕ → List Lexeme → List Lexeme → Type 0
  AreSides no_patterns symbol ts r = ts ≡ r
  AreSides (more_patterns x xs) symbol ts r =
      (a : List Lexeme) × Passes (is_sign symbol) ts a × (level x ≤ at_term) × (m : List Lexeme) × IsPath x a m × AreSides xs symbol m r
