-- What a run may count on where a statement was let through: the pattern of each MATCH is sound under the columns that stand
-- before its clause.
use Rattle.std.specs.Prelude.{◌≡◌, ℕ, List, [], ◌∷◌, None}
use Rattle.gql_values3.specs.Datum.{Datum}
use Rattle.gql_ast.specs.ClauseColumns.{ColumnList}
use Rattle.gql_ast.specs.declared.clause.Clause.{Clause}
use Rattle.gql_ast.specs.declared.clause.Clause.TheVariants as clause
use Rattle.gql_ast.specs.declared.clause.Query.{Query}
use Rattle.gql_ast.specs.declared.statement.Statement.TheVariants as statement
use Rattle.gql_norm.specs.NormalForm.{normal_form}
use Rattle.gql_norm.specs.RowMatch.{IsSound}
use Rattle.gql_scope.specs.StatementBounds.{bound_of_statement}
use Rattle.gql_scope.specs.WholePatterns.{columns_past, whole_refusal}

-- of clauses in order, the first of which stands behind these columns
abbrev pub MatchesAreSound : List (List ℕ × Datum) → ColumnList → List Clause → Type 0
MatchesAreSound params columns [] = Unit {0}
MatchesAreSound params columns (clause.Match m ∷ cs) = IsSound params columns (normal_form m.pattern) × MatchesAreSound params (columns_past columns (clause.Match m)) cs
MatchesAreSound params columns (c ∷ cs) = MatchesAreSound params (columns_past columns c) cs

-- where neither a bound nor anything else of a query is refused, its patterns are sound
abbrev pub AcceptedMatchesAreSound : Type 0
AcceptedMatchesAreSound = (params : List (List ℕ × Datum)) (q : Query) → bound_of_statement (statement.Query q) ≡ None → whole_refusal params (statement.Query q) ≡ None
    → MatchesAreSound params [] q.clauses
