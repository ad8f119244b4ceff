-- What the answer of `run_query` says of the graph and table, or of the refusal, to which the query may lead.
use Rattle.std.specs.Prelude.{◌≡◌, Result, Ok, Err}
use Rattle.gql_values3.specs.PropertyGraph.{PropertyGraph}
use Rattle.gql_ast.specs.declared.clause.Query.{Query}
use Rattle.gql_ast.specs.declared.refusal.Refusal.{Refusal}
use Rattle.gql_linear.specs.Gives.{MayRefuse}
use Rattle.gql_linear.specs.QueryRun.{Working, answer_table}
use Rattle.gql_linear.specs.declared.answer.Answer.{Answer}
use Rattle.gql_linear.specs.declared.answer.RunFault.{RunFault}

-- an answer has the table, and the graph behind it is the one to which the query led; after a refusal nothing is said of the graph
abbrev pub Runs : Query → Result Answer RunFault → PropertyGraph → (Result Working Refusal → Type 0) → Type 0
Runs q (Ok a) after May = (t : Working) × May (Ok t) × (a.table ≡ answer_table q t) × (after ≡ t.graph)
Runs q (Err e) after May = MayRefuse May e
