-- Values: expressions and label expressions as parts of statements.
use Rattle.std.specs.Prelude.{ℕ, List, Option}
use Rattle.gql_lexer.specs.declared.lexeme.Lexeme.{Lexeme}
use Rattle.gql_ast.specs.Meaning.{tree_of}
use Rattle.gql_ast.specs.LabelMeaning.{label_of}
use Rattle.gql_ast.specs.declared.expr.Expr.{Expr}
use Rattle.gql_ast.specs.declared.label.LabelExpr.{LabelExpr}
use Rattle.gql_exprs.specs.Grammar.{Is}
use Rattle.gql_exprs.specs.LabelGrammar.{IsLabel}
use Rattle.gql_front.specs.Tables.{Begins}
use Rattle.gql_front.specs.Reading.{is_sign}
use Rattle.gql_parts.specs.Parts.{Passes}

-- an expression, by its meaning
abbrev pub IsValue : Expr → List Lexeme → List Lexeme → Type 0
IsValue e ts r = Is (tree_of e) ts r

-- a lexeme that says a name, a symbol, and the expression whose value the name gets
abbrev pub IsNamedValue : (Lexeme → Option (List ℕ)) → ℕ → List ℕ → Expr → List Lexeme → List Lexeme → Type 0
IsNamedValue says sign x e ts r = (a : List Lexeme) × Begins says x ts a × (b : List Lexeme) × Passes (is_sign sign) a b × IsValue e b r

-- a label expression, by its meaning
abbrev pub IsLabels : LabelExpr → List Lexeme → List Lexeme → Type 0
IsLabels l ts r = IsLabel (label_of l) ts r
