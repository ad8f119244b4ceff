-- QueryReaders: reading queries.
use Rattle.std.specs.Prelude.{cond, List, [], ◌∷◌, ◌++◌, length, Option, Some, None}
use Rattle.gql_lexer.specs.declared.lexeme.Lexeme.{Lexeme}
use Rattle.gql_ast.specs.declared.clause.Clause.{Clause}
use Rattle.gql_ast.specs.declared.clause.Clause.TheVariants as clause
use Rattle.gql_ast.specs.declared.clause.Query.{Query}
use Rattle.gql_ast.specs.LastClause.{ends_in_change}
use Rattle.gql_lexer.specs.WordPlaces.{RETURN}
use Rattle.gql_front.specs.Reading.{◌>>=◌, Reader, is_word, after, many}
use Rattle.gql_statements.specs.QueryGrammar.{no_pages_meet}
use Rattle.gql_statements.specs.Machinery.ClauseReaders.{clause_of}
use Rattle.gql_statements.specs.Machinery.ReturnReaders.{return_of}

-- as many clauses as there are
unfoldable pub clauses_of : List Lexeme → List Clause × List Lexeme
clauses_of ts = many clause_of (length ts) ts

-- Return as the last clause; without it, the last clause is a change
abbrev pub return_or_change : List Clause → List Lexeme → Option (List Lexeme) → Option (List Clause × List Lexeme)
return_or_change cs ts (Some a) = do
  r ← return_of a
  Some (cs ++ clause.Return r.0 ∷ [], r.1)
return_or_change cs ts None = cond (ends_in_change cs) (Some (cs, ts)) None

-- behind clauses: all clauses, with the last one
unfoldable pub with_last_clause_of : List Clause → Reader (List Clause)
with_last_clause_of cs ts = return_or_change cs ts (after (is_word RETURN) ts)

-- the clauses, where no pages meet
abbrev pub checked : List Clause → List Lexeme → Option (Query × List Lexeme)
checked cs r = cond (no_pages_meet cs) (Some (record { clauses = cs }, r)) None

unfoldable pub query_of : Reader Query
query_of ts = do
  cs ← with_last_clause_of (clauses_of ts).0 (clauses_of ts).1
  checked cs.0 cs.1
