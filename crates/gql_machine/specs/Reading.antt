-- How a piece reads: as a statement, or why it is none.
use Rattle.std.specs.Prelude.{◌≡◌, ◌≢◌, ℕ, true, false, List, [], Some, None}
use Rattle.gql_lexer.specs.Lexemes.{lexemes_of}
use Rattle.gql_lexer.specs.declared.lexeme.Lexeme.{Lexeme}
use Rattle.gql_ast.specs.declared.statement.Statement.{Statement}
use Rattle.gql_exprs.specs.Depth.{too_deep}
use Rattle.gql_statements.specs.StatementGrammar.{Derives}

-- how a piece reads
pub data Reading : Type 0 where
  -- there are no lexemes
  blank : Reading
  -- a lexeme is bad
  bad : Reading
  -- brackets are nested too deep
  deep : Reading
  -- no statement is derived
  unread : Reading
  -- this statement is derived
  read : Statement → Reading

-- The piece reads so. No piece reads in two ways, since its lexemes are one list and derive one statement at most.
abbrev pub ReadsAs : List ℕ → Reading → Type 0
ReadsAs piece blank = lexemes_of piece ≡ Some []
ReadsAs piece bad = lexemes_of piece ≡ None
ReadsAs piece deep = (ts : List Lexeme) × (lexemes_of piece ≡ Some ts) × (too_deep ts ≡ true)
ReadsAs piece unread =
    (ts : List Lexeme) × (lexemes_of piece ≡ Some ts) × (ts ≢ []) × (too_deep ts ≡ false) × ((s : Statement) → Derives ts s → ⊥)
ReadsAs piece (read s) = (ts : List Lexeme) × (lexemes_of piece ≡ Some ts) × (too_deep ts ≡ false) × Derives ts s
