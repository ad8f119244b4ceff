-- When a query runs in one way: where no selector leaves a MATCH a choice.
use Rattle.std.specs.Prelude.{◌≡◌, ℕ, List, Result}
use Rattle.gql_values3.specs.Datum.{Datum}
use Rattle.gql_values3.specs.PropertyGraph.{PropertyGraph}
use Rattle.gql_ast.specs.declared.clause.Clause.{Clause}
use Rattle.gql_ast.specs.declared.clause.Clause.TheVariants as clause
use Rattle.gql_ast.specs.declared.clause.Query.{Query}
use Rattle.gql_ast.specs.declared.refusal.Refusal.{Refusal}
use Rattle.gql_norm.specs.NormalForm.{normal_form}
use Rattle.gql_norm.specs.Selection.{Each, HasNoChoice}
use Rattle.gql_linear.specs.QueryRun.{Working, QueryMayRun}

-- each path pattern of a MATCH is without a selector, or has SHORTEST k GROUP
abbrev pub ClauseHasNoChoice : Clause → Type 0
ClauseHasNoChoice (clause.Match m) = Each HasNoChoice (normal_form m.pattern).paths
ClauseHasNoChoice _ = Unit {0}

-- the same of each clause of a query
abbrev pub QueryHasNoChoice : Query → Type 0
QueryHasNoChoice q = Each ClauseHasNoChoice q.clauses

-- such a query leads to one graph and one table, or ends in one refusal
abbrev pub QueriesRunInOneWay : Type 0
QueriesRunInOneWay = (g : PropertyGraph) (params : List (List ℕ × Datum)) (q : Query) (r s : Result Working Refusal) → QueryHasNoChoice q → QueryMayRun g params q r → QueryMayRun g params q s → r ≡ s
