-- A query of which no pattern is refused: each stands under the columns behind the clauses before it.
use Rattle.std.specs.Prelude.{ℕ, List, [], ◌∷◌}
use Rattle.gql_values3.specs.Datum.{Datum}
use Rattle.gql_ast.specs.ClauseColumns.{ColumnList}
use Rattle.gql_ast.specs.Projections.{columns_behind}
use Rattle.gql_ast.specs.declared.clause.Clause.{Clause}
use Rattle.gql_ast.specs.declared.clause.Clause.TheVariants as clause
use Rattle.gql_norm.specs.NewColumns.{columns_after}
use Rattle.gql_norm.specs.NormalForm.{normal_form}
use Rattle.gql_norm.specs.RowMatch.{IsSound}

-- the columns behind a clause; behind a MATCH those of its pattern's path names and variables
abbrev pub columns_past : ColumnList → Clause → ColumnList
columns_past columns (clause.Match m) = columns_after columns (normal_form m.pattern)
columns_past columns c = columns_behind columns c

module _ (params : List (List ℕ × Datum)) where
  -- nothing is refused of the pattern of a MATCH
  abbrev pub MatchIsSound : ColumnList → Clause → Type 0
  MatchIsSound columns (clause.Match m) = IsSound params columns (normal_form m.pattern)
  MatchIsSound columns _ = Unit {0}

  -- nothing is refused of the pattern of any MATCH
  abbrev pub MatchesAreSound : ColumnList → List Clause → Type 0
  MatchesAreSound columns [] = Unit {0}
  MatchesAreSound columns (clause.Match m ∷ cs) = IsSound params columns (normal_form m.pattern) × MatchesAreSound (columns_past columns (clause.Match m)) cs
  MatchesAreSound columns (c ∷ cs) = MatchesAreSound (columns_past columns c) cs
