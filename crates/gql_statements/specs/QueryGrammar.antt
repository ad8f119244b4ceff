-- Queries.
--
--   Query = {Clause}* Return; {Clause}* Change, where two Page clauses never stand side by side
use Rattle.std.specs.Prelude.{Bool, true, false, not, ◌&&◌, IsTrue, List, [], ◌∷◌}
use Rattle.gql_lexer.specs.declared.lexeme.Lexeme.{Lexeme}
use Rattle.gql_ast.specs.declared.clause.Clause.{Clause}
use Rattle.gql_ast.specs.declared.clause.Clause.TheVariants as clause
use Rattle.gql_ast.specs.declared.clause.Query.{Query}
use Rattle.gql_statements.specs.ClauseGrammar.{IsClause, IsLast}

-- ORDER BY, OFFSET or LIMIT as a clause
abbrev pub is_page : Clause → Bool
is_page (clause.Page p) = true
is_page _ = false

-- no two Page clauses stand side by side
abbrev pub no_pages_meet : List Clause → Bool
no_pages_meet [] = true
no_pages_meet (c ∷ []) = true
no_pages_meet (c ∷ d ∷ cs) = not (is_page c && is_page d) && no_pages_meet (d ∷ cs)

-- {Clause}* and then Return or a change
abbrev pub AreClauses : List Clause → List Lexeme → List Lexeme → Type 0
AreClauses [] ts r = ⊥
AreClauses (c ∷ []) ts r = IsLast c ts r
AreClauses (c ∷ d ∷ cs) ts r = (m : List Lexeme) × IsClause c ts m × AreClauses (d ∷ cs) m r

-- clauses of which the last is RETURN or a change, and no two Page clauses stand side by side
abbrev pub IsQuery : Query → List Lexeme → List Lexeme → Type 0
IsQuery q ts r = IsTrue (no_pages_meet q.clauses) × AreClauses q.clauses ts r
