-- ExprWords: what the words and symbols of expressions say.
use Rattle.std.specs.Prelude.{ℕ, List, [], ◌∷◌, Option}
use Rattle.gql_lexer.specs.declared.lexeme.Lexeme.{Lexeme}
use Rattle.gql_values3.specs.declared.comparison.Comparison.{Comparison}
use Rattle.gql_values3.specs.declared.comparison.Comparison.TheVariants as comparison
use Rattle.gql_ast.specs.declared.words.Aggregate.TheVariants as aggregates
use Rattle.gql_ast.specs.declared.words.EdgeEnd.TheVariants as ends
use Rattle.gql_ast.specs.declared.words.Function.TheVariants as functions
use Rattle.gql_ast.specs.declared.words.Operator.{Operator}
use Rattle.gql_ast.specs.declared.words.Operator.TheVariants as operator
use Rattle.gql_ast.specs.declared.words.Quality.TheVariants as quality
use Rattle.gql_ast.specs.declared.words.SetQuantifier.{SetQuantifier}
use Rattle.gql_ast.specs.declared.words.SetQuantifier.TheVariants as quantifier
use Rattle.gql_ast.specs.declared.words.Sign.{Sign}
use Rattle.gql_ast.specs.declared.words.Sign.TheVariants as sign
use Rattle.gql_exprs.specs.declared.atom_word.AtomWord.{AtomWord}
use Rattle.gql_exprs.specs.declared.atom_word.AtomWord.TheVariants as atom
use Rattle.gql_exprs.specs.declared.test_word.TestWord.{TestWord}
use Rattle.gql_exprs.specs.declared.test_word.TestWord.TheVariants as test
use Rattle.gql_lexer.specs.SymbolPlaces as symbol
use Rattle.gql_lexer.specs.WordPlaces as word
use Rattle.gql_front.specs.Tables.{word_in, sign_in}

-- the words between the sides of a disjunction, and the operator of each
abbrev pub or_words : List (ℕ × Operator)
or_words = (word.OR, operator.Or) ∷ (word.XOR, operator.Xor) ∷ []

-- the operator with which a disjunction goes on
abbrev pub or_op : Lexeme → Option Operator
or_op t = word_in or_words t

-- the words between the sides of a conjunction, and the operator of each
abbrev pub and_words : List (ℕ × Operator)
and_words = (word.AND, operator.And) ∷ []

-- the operator with which a conjunction goes on
abbrev pub and_op : Lexeme → Option Operator
and_op t = word_in and_words t

-- the symbols between the sides of a sum, and the operator of each; `||` binds as `+` does
abbrev pub sum_signs : List (ℕ × Operator)
sum_signs = (symbol.plus, operator.Add) ∷ (symbol.minus, operator.Subtract) ∷ (symbol.double_bar, operator.Concatenate) ∷ []

-- the operator with which a sum goes on
abbrev pub sum_op : Lexeme → Option Operator
sum_op t = sign_in sum_signs t

-- the symbols between the sides of a product, and the operator of each
abbrev pub product_signs : List (ℕ × Operator)
product_signs = (symbol.star, operator.Multiply) ∷ (symbol.slash, operator.Divide) ∷ []

-- the operator with which a product goes on
abbrev pub product_op : Lexeme → Option Operator
product_op t = sign_in product_signs t

-- the signs before an operand
abbrev pub signs : List (ℕ × Sign)
signs = (symbol.plus, sign.Plus) ∷ (symbol.minus, sign.Minus) ∷ []

-- the sign that the lexeme is before an operand
abbrev pub sign_op : Lexeme → Option Sign
sign_op t = sign_in signs t

-- the signs of comparison
abbrev pub comparison_signs : List (ℕ × Comparison)
comparison_signs =
    (symbol.equal, comparison.Eq) ∷ (symbol.not_equal, comparison.Ne) ∷ (symbol.less, comparison.Lt) ∷ (symbol.greater, comparison.Gt)
    ∷ (symbol.less_or_equal, comparison.Le) ∷ (symbol.greater_or_equal, comparison.Ge) ∷ []

-- the comparison that the lexeme asks for
abbrev pub comparison_op : Lexeme → Option Comparison
comparison_op t = sign_in comparison_signs t

-- the words that begin an atom
abbrev pub atom_words : List (ℕ × AtomWord)
atom_words =
    (word.TRUE, atom.True) ∷ (word.FALSE, atom.False) ∷ (word.UNKNOWN, atom.Unknown) ∷ (word.NULL, atom.Null) ∷ (word.LIST, atom.List)
    ∷ (word.COUNT, atom.Aggregate aggregates.Count) ∷ (word.SUM, atom.Aggregate aggregates.Sum) ∷ (word.MIN, atom.Aggregate aggregates.Min)
    ∷ (word.MAX, atom.Aggregate aggregates.Max) ∷ (word.COLLECT_LIST, atom.Aggregate aggregates.CollectList)
    ∷ (word.ABS, atom.Call functions.Abs) ∷ (word.CHAR_LENGTH, atom.Call functions.CharLength)
    ∷ (word.CARDINALITY, atom.Call functions.Cardinality) ∷ (word.PATH_LENGTH, atom.Call functions.PathLength)
    ∷ (word.ELEMENTS, atom.Call functions.Elements) ∷ (word.MOD, atom.Mod) ∷ (word.COALESCE, atom.Coalesce) ∷ []

-- what atom the lexeme begins by its word
abbrev pub atom_word : Lexeme → Option AtomWord
atom_word t = word_in atom_words t

-- the words in an aggregate before what is aggregated
abbrev pub quantifier_words : List (ℕ × SetQuantifier)
quantifier_words = (word.DISTINCT, quantifier.Distinct) ∷ (word.ALL, quantifier.All) ∷ []

-- whether an aggregate takes equal values once, by the word before what it aggregates
abbrev pub quantifier_op : Lexeme → Option SetQuantifier
quantifier_op t = word_in quantifier_words t

-- the words behind IS and IS NOT
abbrev pub test_words : List (ℕ × TestWord)
test_words =
    (word.NULL, test.Quality quality.Null) ∷ (word.TRUE, test.Quality quality.True) ∷ (word.FALSE, test.Quality quality.False)
    ∷ (word.UNKNOWN, test.Quality quality.Unknown) ∷ (word.DIRECTED, test.Quality quality.Directed) ∷ (word.LABELED, test.Labeled)
    ∷ (word.SOURCE, test.End ends.Source) ∷ (word.DESTINATION, test.End ends.Destination) ∷ []

-- what the lexeme asks behind IS
abbrev pub test_word : Lexeme → Option TestWord
test_word t = word_in test_words t
