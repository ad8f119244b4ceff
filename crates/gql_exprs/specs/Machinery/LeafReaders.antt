-- Reading what holds no expression in brackets: names with a property, the words of tests, and what operators make of their sides.
use Rattle.std.specs.Prelude.{ℕ, nat_eq, cond, List, [], ◌∷◌, Option, Some, None}
use Rattle.gql_lexer.specs.declared.lexeme.Lexeme.{Lexeme}
use Rattle.gql_lexer.specs.declared.lexeme.Lexeme.TheVariants as lex
use Rattle.gql_values3.specs.declared.comparison.Comparison.{Comparison}
use Rattle.gql_ast.specs.Tree.{Tree, Link, Links, links_of, name, property, comparing, test, label_test, end_test, negation}
use Rattle.gql_ast.specs.declared.words.Aggregate.{Aggregate}
use Rattle.gql_ast.specs.declared.words.Aggregate.TheVariants as aggregates
use Rattle.gql_ast.specs.declared.words.EdgeEnd.{EdgeEnd}
use Rattle.gql_ast.specs.declared.words.Sense.{Sense}
use Rattle.gql_ast.specs.declared.words.Sense.TheVariants as sense
use Rattle.gql_ast.specs.declared.words.SetQuantifier.{SetQuantifier}
use Rattle.gql_ast.specs.declared.words.SetQuantifier.TheVariants as quantifier
use Rattle.gql_exprs.specs.declared.test_word.TestWord.{TestWord}
use Rattle.gql_exprs.specs.declared.test_word.TestWord.TheVariants as asked
use Rattle.gql_lexer.specs.SymbolPlaces.{comma, colon, dot, star}
use Rattle.gql_lexer.specs.WordPlaces.{IS, NOT, OF}
use Rattle.gql_front.specs.Reading.{◌>>=◌, Reader, is_sign, is_word, name_in, any_name_in, after, op_at, with_ending}
use Rattle.gql_exprs.specs.Machinery.LabelReaders.{read_label}
use Rattle.gql_exprs.specs.ExprWords.{quantifier_op, test_word}
use Rattle.gql_exprs.specs.Grammar.{Ending, has_quality, has_labels, is_end}

-- operators that say nothing more
abbrev pub comma_op : Lexeme → Option (Unit {0})
comma_op t = cond (is_sign comma t) (Some tt) None

abbrev pub not_op : Lexeme → Option (Unit {0})
not_op t = cond (is_word NOT t) (Some tt) None

-- what operators make of their operands
abbrev pub operand : Unit {0} → Tree → Tree
operand o e = e

abbrev pub negated : Unit {0} → Tree → Tree
negated o e = negation e

abbrev pub compared : Tree → Comparison × Tree → Tree
compared e side = comparing side.0 e side.1

abbrev pub other_side : Comparison → Tree → Comparison × Tree
other_side c e = (c, e)

abbrev pub tested : Tree → Ending → Tree
tested e (has_quality s q) = test e s q
tested e (has_labels s l) = label_test e s l
tested e (is_end s end v) = end_test e s end v

abbrev pub items : Tree → List Tree → List Tree
items e es = e ∷ es

-- a chain of one side is that side
abbrev pub chain_or_side : (Tree → Links → Tree) → Tree → List Link → Tree
chain_or_side node e [] = e
chain_or_side node e (l ∷ ls) = node e (links_of (l ∷ ls))

-- "." Any, behind a name
unfoldable pub field : Reader (List ℕ)
field ts = do
  a ← after (is_sign dot) ts
  op_at any_name_in a

unfoldable pub named : List ℕ → Reader Tree
named x ts = Some (with_ending (λ e p. property x p) (name x) ts (field ts))

-- [DISTINCT or ALL]
abbrev pub quantifier_or_all : List Lexeme → Option (SetQuantifier × List Lexeme) → SetQuantifier × List Lexeme
quantifier_or_all ts None = (quantifier.All, ts)
quantifier_or_all ts (Some x) = x

unfoldable pub quantifier_of : List Lexeme → SetQuantifier × List Lexeme
quantifier_of ts = quantifier_or_all ts (op_at quantifier_op ts)

-- [NOT], behind IS
abbrev pub not_or_is : List Lexeme → Option (List Lexeme) → Sense × List Lexeme
not_or_is ts None = (sense.Is, ts)
not_or_is ts (Some r) = (sense.IsNot, r)

unfoldable pub sense_of : List Lexeme → Sense × List Lexeme
sense_of ts = not_or_is ts (after (is_word NOT) ts)

-- behind a colon or LABELED
unfoldable pub labels_ending : Sense → Reader Ending
labels_ending s ts = do
  l ← read_label ts
  Some (has_labels s l.0, l.1)

-- behind SOURCE or DESTINATION
unfoldable pub end_ending : Sense → EdgeEnd → Reader Ending
end_ending s end ts = do
  a ← after (is_word OF) ts
  v ← op_at name_in a
  Some (is_end s end v.0, v.1)

-- behind the word that asks
abbrev pub asked_ending : Sense → TestWord → Reader Ending
asked_ending s (asked.Quality q) ts = Some (has_quality s q, ts)
asked_ending s asked.Labeled ts = labels_ending s ts
asked_ending s (asked.End end) ts = end_ending s end ts

-- behind IS
unfoldable pub is_ending : Reader Ending
is_ending ts = do
  w ← op_at test_word (sense_of ts).1
  asked_ending (sense_of ts).0 w.0 w.1

-- behind a comparison
unfoldable pub ending : Reader Ending
ending [] = None
ending (lex.Sign place ∷ ts) = cond (nat_eq place colon) (labels_ending sense.Is ts) None
ending (lex.Word place written ∷ ts) = cond (nat_eq place IS) (is_ending ts) None
ending (lex.Name x ∷ ts) = None
ending (lex.Chars x ∷ ts) = None
ending (lex.Number x ∷ ts) = None
ending (lex.Param x ∷ ts) = None

-- the star of COUNT(*)
abbrev pub star_of : Aggregate → List Lexeme → Option (List Lexeme)
star_of aggregates.Count ts = after (is_sign star) ts
star_of _ ts = None
