-- Label expressions: which lexemes derive which.
--
--   LabelExpression = LabelTerm {"|" LabelTerm}*
--   LabelTerm       = LabelFactor {"&" LabelFactor}*
--   LabelFactor     = ["!"] LabelBase
--   LabelBase       = a name or a reserved word, "%", "(" LabelExpression ")"
use Rattle.std.specs.Prelude.{◌≡◌, ◌≤◌, ℕ, List, [], ◌∷◌, Some, ⊤}
use Rattle.gql_lexer.specs.declared.lexeme.Lexeme.{Lexeme}
use Rattle.gql_lexer.specs.declared.lexeme.Lexeme.TheVariants.{Sign}
use Rattle.gql_lexer.specs.SymbolPlaces.{opening, closing, percent, ampersand, bar, bang}
use Rattle.gql_front.specs.Reading.{any_name_in}
use Rattle.gql_ast.specs.Label.{Label, Labels, name, wildcard, paren, negation, conjunction, disjunction, no_labels, more_labels}

-- the levels, from what binds most: a label, `%`, or what stands in parentheses
abbrev pub at_base : ℕ
at_base = 0

-- a base behind `!`
abbrev pub at_factor : ℕ
at_factor = 1

-- a chain of `&`
abbrev pub at_term : ℕ
at_term = 2

-- a chain of `|`; no label expression binds less
abbrev pub at_expression : ℕ
at_expression = 3

-- the level of a label expression
abbrev pub label_rank : Label → ℕ
label_rank (name text) = at_base
label_rank wildcard = at_base
label_rank (paren e) = at_base
label_rank (negation e) = at_factor
label_rank (conjunction e es) = at_term
label_rank (disjunction e es) = at_expression

-- a chain has a second side
abbrev pub HasSides : Labels → Type 0
HasSides no_labels = ⊥
HasSides (more_labels e es) = ⊤

abbrev mutual
  -- the lexemes ts begin with some that derive the label expression, and behind those stands r
  pub IsLabel : Label → List Lexeme → List Lexeme → Type 0
  IsLabel (name text) ts r = (t : Lexeme) × (any_name_in t ≡ Some text) × (ts ≡ t ∷ r)
  IsLabel wildcard ts r = ts ≡ Sign percent ∷ r
  IsLabel (paren e) ts r = (a : List Lexeme) × (ts ≡ Sign opening ∷ a) × IsLabel e a (Sign closing ∷ r)
  IsLabel (negation e) ts r = (label_rank e ≤ at_base) × (a : List Lexeme) × (ts ≡ Sign bang ∷ a) × IsLabel e a r
  IsLabel (conjunction e es) ts r = (label_rank e ≤ at_factor) × (m : List Lexeme) × IsLabel e ts m × HasSides es × AreSides es at_factor ampersand m r
  IsLabel (disjunction e es) ts r = (label_rank e ≤ at_term) × (m : List Lexeme) × IsLabel e ts m × HasSides es × AreSides es at_term bar m r

  -- the same of the further sides of a chain, each a symbol and a label expression of at most a level
  pub AreSides : Labels → ℕ → ℕ → List Lexeme → List Lexeme → Type 0
  AreSides no_labels level symbol ts r = ts ≡ r
  AreSides (more_labels e es) level symbol ts r = (a m : List Lexeme) × (ts ≡ Sign symbol ∷ a) × (label_rank e ≤ level) × IsLabel e a m × AreSides es level symbol m r

-- the lexemes as a whole derive the label expression
abbrev pub DerivesLabel : List Lexeme → Label → Type 0
DerivesLabel ts e = IsLabel e ts []
