-- Clauses of a query.
--
--   Clause = Match; Let; Filter; For; Page; Change
use Rattle.std.specs.Prelude.{List}
use Rattle.gql_lexer.specs.declared.lexeme.Lexeme.{Lexeme}
use Rattle.gql_ast.specs.declared.clause.Clause.{Clause}
use Rattle.gql_ast.specs.declared.clause.Clause.TheVariants as clause
use Rattle.gql_statements.specs.ChangeGrammar.{IsChange}
use Rattle.gql_statements.specs.LetGrammar.{IsLet}
use Rattle.gql_statements.specs.FilterGrammar.{IsFilter}
use Rattle.gql_statements.specs.ForGrammar.{IsFor}
use Rattle.gql_statements.specs.MatchGrammar.{IsMatch}
use Rattle.gql_statements.specs.PageGrammar.{IsPage}
use Rattle.gql_statements.specs.ReturnGrammar.{IsReturn}

-- a clause that others may follow
abbrev pub IsClause : Clause → List Lexeme → List Lexeme → Type 0
IsClause (clause.Match m) ts r = IsMatch m ts r
IsClause (clause.Let is) ts r = IsLet is ts r
IsClause (clause.Filter e) ts r = IsFilter e ts r
IsClause (clause.For f) ts r = IsFor f ts r
IsClause (clause.Page p) ts r = IsPage p ts r
IsClause (clause.Change c) ts r = IsChange c ts r
IsClause (clause.Return ret) ts r = ⊥

-- a clause that ends a query
abbrev pub IsLast : Clause → List Lexeme → List Lexeme → Type 0
IsLast (clause.Return ret) ts r = IsReturn ret ts r
IsLast (clause.Match m) ts r = ⊥
IsLast (clause.Let is) ts r = ⊥
IsLast (clause.Filter e) ts r = ⊥
IsLast (clause.For f) ts r = ⊥
IsLast (clause.Page p) ts r = ⊥
IsLast (clause.Change c) ts r = IsChange c ts r
