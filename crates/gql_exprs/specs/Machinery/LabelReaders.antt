-- Reading label expressions: what stands at the front of lexemes, and what is left. f reads one inside brackets.
use Rattle.std.specs.Prelude.{ℕ, zero, suc, nat_eq, cond, List, [], ◌∷◌, length, Option, Some, None}
use Rattle.gql_lexer.specs.declared.lexeme.Lexeme.{Lexeme}
use Rattle.gql_lexer.specs.declared.lexeme.Lexeme.TheVariants.{Word, Name, Chars, Number, Param, Sign}
use Rattle.gql_lexer.specs.SymbolPlaces.{opening, closing, percent, ampersand, bar, bang}
use Rattle.gql_front.specs.Reading.{◌>>=◌, Reader, is_sign, after, step, many, chain, prefix, one_or}
use Rattle.gql_ast.specs.Label.{Label, labels_listed, name, wildcard, paren, negation, conjunction, disjunction}
use Rattle.gql_exprs.specs.declared.labels.LabelChain.{LabelChain}
use Rattle.gql_exprs.specs.declared.labels.LabelChain.TheVariants.{Or, And}

-- a symbol as an operator
abbrev pub symbol_op : ℕ → Lexeme → Option (Unit {0})
symbol_op place t = cond (is_sign place t) (Some tt) None

-- what an operator makes of its operand
abbrev pub operand : Unit {0} → Label → Label
operand o e = e

abbrev pub negated : Unit {0} → Label → Label
negated o e = negation e

-- the chains of `&` and of `|`
abbrev pub conjoined : Label → List Label → Label
conjoined e es = conjunction e (labels_listed es)

abbrev pub disjoined : Label → List Label → Label
disjoined e es = disjunction e (labels_listed es)

module _ (f : Reader Label) where
  -- behind an opening parenthesis
  unfoldable pub paren_of : Reader Label
  paren_of ts = do
    e ← f ts
    r ← after (is_sign closing) e.1
    Some (paren e.0, r)

  unfoldable pub base_of : Reader Label
  base_of [] = None
  base_of (Name text ∷ r) = Some (name text, r)
  base_of (Word place written ∷ r) = Some (name written, r)
  base_of (Sign place ∷ r) = cond (nat_eq place percent) (Some (wildcard, r)) (cond (nat_eq place opening) (paren_of r) None)
  base_of (Number text ∷ r) = None
  base_of (Chars text ∷ r) = None
  base_of (Param text ∷ r) = None

  unfoldable pub factor_of : Reader Label
  factor_of = prefix (symbol_op bang) negated base_of

  unfoldable pub term_of : Reader Label
  term_of = chain (symbol_op ampersand) factor_of operand (one_or conjoined)

  unfoldable pub expression_of : Reader Label
  expression_of = chain (symbol_op bar) term_of operand (one_or disjoined)

-- as deep as a number says
unfoldable pub read_to : ℕ → Reader Label
read_to zero ts = None
read_to (suc n) ts = expression_of (read_to n) ts

-- a label expression: no brackets are nested deeper than there are lexemes
unfoldable pub read_label : Reader Label
read_label ts = read_to (suc (length ts)) ts

-- the two chains: their symbol, what they make, and the readers of a side, of the further sides and of the whole
abbrev pub symbol_of : LabelChain → ℕ
symbol_of Or = bar
symbol_of And = ampersand

abbrev pub chain_label : LabelChain → Label → List Label → Label
chain_label Or = disjoined
chain_label And = conjoined

abbrev pub side_of : LabelChain → Reader Label → Reader Label
side_of Or f = term_of f
side_of And f = factor_of f

unfoldable pub sides_of : LabelChain → Reader Label → List Lexeme → List Label × List Lexeme
sides_of c f ts = many (step (symbol_op (symbol_of c)) (side_of c f) operand) (length ts) ts

abbrev pub chain_of : LabelChain → Reader Label → Reader Label
chain_of Or f = expression_of f
chain_of And f = term_of f
