-- How queries end, as the code tells it.
use Rattle.std.specs.Prelude.{◌≡◌, Option, Some, None, Result, Ok, Err}
use Rattle.gql_values3.specs.PropertyGraph.{PropertyGraph}
use Rattle.gql_values3.specs.declared.element.Elem.{Elem}
use Rattle.gql_values3.specs.declared.table.Table.{Table}
use Rattle.gql_ast.specs.declared.clause.Query.{Query}
use Rattle.gql_ast.specs.declared.refusal.Outcome.{Outcome}
use Rattle.gql_ast.specs.declared.refusal.Outcome.TheVariants as outcome
use Rattle.gql_ast.specs.declared.refusal.Refusal.{Refusal}
use Rattle.gql_ast.specs.declared.refusal.Refusal.TheVariants as refusal
use Rattle.gql_linear.specs.QueryRun.{Working, answer_table, QueryMayRun}
use Rattle.gql_machine.specs.SessionState.{SessionState, ParameterList, with_graph}
use Rattle.gql_machine.specs.StatementRun.{StatementEnd, refused_with, outcome_of_table}

-- what a query that reads is answered with
abbrev pub read_outcome : Query → Result Working Refusal → Outcome
read_outcome q (Ok t) = outcome_of_table (answer_table q t)
read_outcome q (Err r) = outcome.Refused r

-- a query may come to a result that is shown so
pub record ComesTo (g : PropertyGraph) (params : ParameterList) (q : Query) (made : Outcome) : Type 0 where
  pub given : Result Working Refusal
  pub runs : QueryMayRun g params q given
  pub shown : made ≡ read_outcome q given

-- a graph that would take the place of the current one, where this element of it fits no type
abbrev pub put_end : SessionState → Option Table → PropertyGraph → Option Elem → StatementEnd
put_end before table g (Some misfit) = refused_with before (refusal.Misfit misfit)
put_end before table g None = record { outcome = outcome_of_table table; after = with_graph before g }
