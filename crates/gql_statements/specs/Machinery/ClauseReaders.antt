-- ClauseReaders: reading clauses, each behind its first word.
use Rattle.std.specs.Prelude.{ℕ, false, List, Option, Some}
use Rattle.gql_lexer.specs.declared.lexeme.Lexeme.{Lexeme}
use Rattle.gql_ast.specs.declared.expr.Expr.{Expr}
use Rattle.gql_ast.specs.declared.clause.Clause.{Clause}
use Rattle.gql_ast.specs.declared.clause.Clause.TheVariants as clause
use Rattle.gql_ast.specs.declared.clause.Counting.{Counting}
use Rattle.gql_ast.specs.declared.clause.For.{For}
use Rattle.gql_ast.specs.declared.clause.LetItem.{LetItem}
use Rattle.gql_lexer.specs.SymbolPlaces.{equal}
use Rattle.gql_lexer.specs.WordPlaces.{IN, WHERE, WITH}
use Rattle.gql_front.specs.Reading.{◌>>=◌, Reader, is_word, name_in, after, op_at}
use Rattle.gql_statements.specs.declared.clause_word.ClauseWord.{ClauseWord}
use Rattle.gql_statements.specs.declared.clause_word.ClauseWord.TheVariants as begins
use Rattle.gql_statements.specs.ClauseWords.{clause_word}
use Rattle.gql_statements.specs.PartWords.{counting_word}
use Rattle.gql_parts.specs.Machinery.PartReaders.{read_value, named_value_of, led, past, listed}
use Rattle.gql_statements.specs.Machinery.PageReaders.{order_page_of, skip_page_of, limit_page_of}
use Rattle.gql_statements.specs.Machinery.MatchReaders.{match_of, optional_match_of}
use Rattle.gql_statements.specs.Machinery.ChangeReaders.{change_behind}

abbrev pub as_let_item : List ℕ → Expr → LetItem
as_let_item x e = record { name = x; value = e }

unfoldable pub let_item_of : Reader LetItem
let_item_of ts = named_value_of name_in equal as_let_item ts

unfoldable pub let_of : Reader (List LetItem)
let_of = listed let_item_of

unfoldable pub filter_of : Reader Expr
filter_of ts = read_value (past (is_word WHERE) ts)

-- behind WITH
unfoldable pub counted_of : Reader (Counting × List ℕ)
counted_of ts = do
  c ← op_at counting_word ts
  x ← op_at name_in c.1
  Some ((c.0, x.0), x.1)

unfoldable pub counter_of : Reader (Option (Counting × List ℕ))
counter_of ts = led (is_word WITH) counted_of ts

unfoldable pub for_of : Reader For
for_of ts = do
  x ← op_at name_in ts
  a ← after (is_word IN) x.1
  e ← read_value a
  c ← counter_of e.1
  Some (record { name = x.0; list = e.0; counter = c.0 }, c.1)

-- what was read, as a clause
abbrev pub as_clause : {A : Type 0} → (A → Clause) → Option (A × List Lexeme) → Option (Clause × List Lexeme)
as_clause make o = o >>= λ x. Some (make x.0, x.1)

-- behind the word that begins a clause
abbrev pub clause_behind : ClauseWord → Reader Clause
clause_behind begins.Match ts = as_clause clause.Match (match_of false ts)
clause_behind begins.Optional ts = as_clause clause.Match (optional_match_of ts)
clause_behind begins.Let ts = as_clause clause.Let (let_of ts)
clause_behind begins.Filter ts = as_clause clause.Filter (filter_of ts)
clause_behind begins.For ts = as_clause clause.For (for_of ts)
clause_behind begins.Order ts = as_clause clause.Page (order_page_of ts)
clause_behind begins.Skip ts = as_clause clause.Page (skip_page_of ts)
clause_behind begins.Limit ts = as_clause clause.Page (limit_page_of ts)
clause_behind (begins.Change w) ts = as_clause clause.Change (change_behind w ts)

unfoldable pub clause_of : Reader Clause
clause_of ts = do
  w ← op_at clause_word ts
  clause_behind w.0 w.1
