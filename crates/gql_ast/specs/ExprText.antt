-- The canonical text of an expression, which also names a column that has no name of its own.
use Rattle.std.specs.Prelude.{ℕ, List, [], ◌∷◌, ◌++◌, ◌==◌, codes, if◌then◌else◌}
use Rattle.gql_values3.specs.declared.comparison.Comparison.{Comparison}
use Rattle.gql_values3.specs.declared.comparison.Comparison.TheVariants as comparison
use Rattle.gql_ast.specs.ValueText.{value_text, name_text, any_name_text}
use Rattle.gql_ast.specs.Label.{Label, Labels, no_labels, more_labels}
use Rattle.gql_ast.specs.Label as label
use Rattle.gql_ast.specs.Tree.{Tree, Trees, Links, constant, unknown, number, parameter, name, property, paren, listing, count_all, aggregate, call, modulo, coalesce, signed, product, sum, comparing, test, label_test, end_test, negation, conjunction, disjunction, link, no_trees, more_trees, no_links, more_links}
use Rattle.gql_ast.specs.declared.words.Aggregate.{Aggregate}
use Rattle.gql_ast.specs.declared.words.Aggregate.TheVariants as aggregates
use Rattle.gql_ast.specs.declared.words.EdgeEnd.{EdgeEnd}
use Rattle.gql_ast.specs.declared.words.EdgeEnd.TheVariants as ends
use Rattle.gql_ast.specs.declared.words.Function.{Function}
use Rattle.gql_ast.specs.declared.words.Function.TheVariants as functions
use Rattle.gql_ast.specs.declared.words.Operator.{Operator}
use Rattle.gql_ast.specs.declared.words.Operator.TheVariants as operators
use Rattle.gql_ast.specs.declared.words.Quality.{Quality}
use Rattle.gql_ast.specs.declared.words.Quality.TheVariants as qualities
use Rattle.gql_ast.specs.declared.words.Sense.{Sense}
use Rattle.gql_ast.specs.declared.words.Sense.TheVariants as senses
use Rattle.gql_ast.specs.declared.words.SetQuantifier.{SetQuantifier}
use Rattle.gql_ast.specs.declared.words.SetQuantifier.TheVariants as quantifiers
use Rattle.gql_ast.specs.declared.words.Sign.{Sign}
use Rattle.gql_ast.specs.declared.words.Sign.TheVariants as signs

-- a number by its digits, without the zeros that stand first; one digit stays
abbrev pub number_text : List ℕ → List ℕ
number_text [] = codes "0"
number_text (c ∷ cs) = if c == 48 then number_text cs else c ∷ cs

-- a text in parentheses
abbrev pub in_parens : List ℕ → List ℕ
in_parens t = 40 ∷ (t ++ 41 ∷ [])

-- the sign of a comparison
abbrev pub comparison_text : Comparison → List ℕ
comparison_text comparison.Eq = codes "="
comparison_text comparison.Ne = codes "<>"
comparison_text comparison.Lt = codes "<"
comparison_text comparison.Gt = codes ">"
comparison_text comparison.Le = codes "<="
comparison_text comparison.Ge = codes ">="

-- the word or the sign of an operator between two expressions
abbrev pub operator_text : Operator → List ℕ
operator_text operators.Or = codes "OR"
operator_text operators.Xor = codes "XOR"
operator_text operators.And = codes "AND"
operator_text operators.Add = codes "+"
operator_text operators.Subtract = codes "-"
operator_text operators.Concatenate = codes "||"
operator_text operators.Multiply = codes "*"
operator_text operators.Divide = codes "/"

-- the sign in front of an expression
abbrev pub sign_text : Sign → List ℕ
sign_text signs.Plus = codes "+"
sign_text signs.Minus = codes "-"

-- the word of an aggregate
abbrev pub aggregate_text : Aggregate → List ℕ
aggregate_text aggregates.Count = codes "COUNT"
aggregate_text aggregates.Sum = codes "SUM"
aggregate_text aggregates.Min = codes "MIN"
aggregate_text aggregates.Max = codes "MAX"
aggregate_text aggregates.CollectList = codes "COLLECT_LIST"

-- ALL is dropped
abbrev pub quantifier_text : SetQuantifier → List ℕ
quantifier_text quantifiers.All = []
quantifier_text quantifiers.Distinct = codes "DISTINCT "

-- the word of a function
abbrev pub function_text : Function → List ℕ
function_text functions.Abs = codes "ABS"
function_text functions.CharLength = codes "CHAR_LENGTH"
function_text functions.Cardinality = codes "CARDINALITY"
function_text functions.PathLength = codes "PATH_LENGTH"
function_text functions.Elements = codes "ELEMENTS"

-- IS and IS NOT with the spaces around them
abbrev pub sense_text : Sense → List ℕ
sense_text senses.Is = codes " IS "
sense_text senses.IsNot = codes " IS NOT "

-- the word behind IS or IS NOT
abbrev pub quality_text : Quality → List ℕ
quality_text qualities.Null = codes "NULL"
quality_text qualities.True = codes "TRUE"
quality_text qualities.False = codes "FALSE"
quality_text qualities.Unknown = codes "UNKNOWN"
quality_text qualities.Directed = codes "DIRECTED"

-- what stands between IS and the edge, for the test of an endpoint
abbrev pub end_text : EdgeEnd → List ℕ
end_text ends.Source = codes "SOURCE OF "
end_text ends.Destination = codes "DESTINATION OF "

-- a label expression, without spaces
abbrev mutual
  pub label_text : Label → List ℕ
  label_text (label.name l) = any_name_text l
  label_text label.wildcard = codes "%"
  label_text (label.paren l) = in_parens (label_text l)
  label_text (label.negation l) = codes "!" ++ label_text l
  label_text (label.conjunction l ls) = label_text l ++ labels_text (codes "&") ls
  label_text (label.disjunction l ls) = label_text l ++ labels_text (codes "|") ls

  -- each behind the sign
  pub labels_text : List ℕ → Labels → List ℕ
  labels_text sign no_labels = []
  labels_text sign (more_labels l ls) = sign ++ label_text l ++ labels_text sign ls

unfoldable mutual
  -- the canonical text
  pub expr_text : Tree → List ℕ
  expr_text (constant d) = value_text d
  expr_text unknown = codes "UNKNOWN"
  expr_text (number digits) = number_text digits
  expr_text (parameter p) = codes "$" ++ name_text p
  expr_text (name x) = name_text x
  expr_text (property x p) = name_text x ++ codes "." ++ any_name_text p
  expr_text (paren e) = in_parens (expr_text e)
  expr_text (listing es) = 91 ∷ (exprs_text es ++ 93 ∷ [])
  expr_text count_all = codes "COUNT(*)"
  expr_text (aggregate a q e) = aggregate_text a ++ in_parens (quantifier_text q ++ expr_text e)
  expr_text (call f e) = function_text f ++ in_parens (expr_text e)
  expr_text (modulo a b) = codes "MOD" ++ in_parens (expr_text a ++ codes ", " ++ expr_text b)
  expr_text (coalesce e es) = codes "COALESCE" ++ in_parens (expr_text e ++ more_exprs_text es)
  expr_text (signed s e) = sign_text s ++ expr_text e
  expr_text (product e ls) = expr_text e ++ links_text ls
  expr_text (sum e ls) = expr_text e ++ links_text ls
  expr_text (comparing op a b) = expr_text a ++ codes " " ++ comparison_text op ++ codes " " ++ expr_text b
  expr_text (test e s q) = expr_text e ++ sense_text s ++ quality_text q
  expr_text (label_test e s l) = expr_text e ++ sense_text s ++ codes "LABELED " ++ label_text l
  expr_text (end_test e s which x) = expr_text e ++ sense_text s ++ end_text which ++ name_text x
  expr_text (negation e) = codes "NOT " ++ expr_text e
  expr_text (conjunction e ls) = expr_text e ++ links_text ls
  expr_text (disjunction e ls) = expr_text e ++ links_text ls

  -- the items of a list
  pub exprs_text : Trees → List ℕ
  exprs_text no_trees = []
  exprs_text (more_trees e es) = expr_text e ++ more_exprs_text es

  -- each behind a comma and a space
  pub more_exprs_text : Trees → List ℕ
  more_exprs_text no_trees = []
  more_exprs_text (more_trees e es) = codes ", " ++ expr_text e ++ more_exprs_text es

  -- each behind its operator, with a space on each side
  pub links_text : Links → List ℕ
  links_text no_links = []
  links_text (more_links (link op e) ls) = codes " " ++ operator_text op ++ codes " " ++ expr_text e ++ links_text ls
