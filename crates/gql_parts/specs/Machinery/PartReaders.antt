-- PartReaders: reading what productions are made of.
use Rattle.std.specs.Prelude.{ℕ, List, [], ◌∷◌, Bool, Option, Some, None}
use Rattle.gql_lexer.specs.declared.lexeme.Lexeme.{Lexeme}
use Rattle.gql_ast.specs.LabelMeaning.{label_expr_of}
use Rattle.gql_ast.specs.Meaning.{expr_of}
use Rattle.gql_ast.specs.declared.expr.Expr.{Expr}
use Rattle.gql_ast.specs.declared.label.LabelExpr.{LabelExpr}
use Rattle.gql_lexer.specs.SymbolPlaces.{closing_brace}
use Rattle.gql_front.specs.Reading.{◌>>=◌, Reader, is_sign, after, op_at, opted, step, sequence}
use Rattle.gql_exprs.specs.Machinery.LabelReaders.{read_label}
use Rattle.gql_exprs.specs.Machinery.LeafReaders.{comma_op}
use Rattle.gql_exprs.specs.Machinery.Readers.{read_expr}

-- an expression, whose meaning is read
unfoldable pub read_value : Reader Expr
read_value ts = do
  e ← read_expr ts
  Some (expr_of e.0, e.1)

-- a symbol, and the expression behind it as the value of this name
abbrev pub value_behind : ℕ → List ℕ → Reader (List ℕ × Expr)
value_behind sign x ts = do
  a ← after (is_sign sign) ts
  e ← read_value a
  Some ((x, e.0), e.1)

-- a name, a symbol, and the expression whose value the name gets
abbrev pub named_value_of : {A : Type 0} → (Lexeme → Option (List ℕ)) → ℕ → (List ℕ → Expr → A) → Reader A
named_value_of says sign make ts = do
  x ← op_at says ts
  v ← value_behind sign x.0 x.1
  Some (make v.0.0 v.0.1, v.1)

-- a label expression, whose meaning is read
unfoldable pub read_labels : Reader LabelExpr
read_labels ts = do
  l ← read_label ts
  Some (label_expr_of l.0, l.1)

-- an item behind a lexeme that announces it, or nothing: a lexeme that no item follows is left
abbrev pub led : {A : Type 0} → (Lexeme → Bool) → Reader A → Reader (Option A)
led test item ts = Some (opted ts (after test ts >>= item))

-- the lexemes behind one that passes the test, or all
abbrev pub behind_or : List Lexeme → Option (List Lexeme) → List Lexeme
behind_or ts None = ts
behind_or ts (Some a) = a

abbrev pub past : (Lexeme → Bool) → List Lexeme → List Lexeme
past test ts = behind_or ts (after test ts)

-- what a comma makes of the item behind it
abbrev pub taken : {A : Type 0} → Unit {0} → A → A
taken o x = x

-- items between commas
abbrev pub listed : {A : Type 0} → Reader A → Reader (List A)
listed item = sequence item (step comma_op item taken) (λ x xs. x ∷ xs)

-- [items between commas] "}"
abbrev pub listed_or_brace : {A : Type 0} → Reader A → List Lexeme → Option (List Lexeme) → Option (List A × List Lexeme)
listed_or_brace item ts (Some r) = Some ([], r)
listed_or_brace item ts None = do
  xs ← listed item ts
  r ← after (is_sign closing_brace) xs.1
  Some (xs.0, r)

abbrev pub listed_to_brace : {A : Type 0} → Reader A → Reader (List A)
listed_to_brace item ts = listed_or_brace item ts (after (is_sign closing_brace) ts)
