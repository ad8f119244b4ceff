-- A query whose clauses ran: its answer, or its refusal.
use Rattle.std.proofs.Common.{◌≡◌, ℕ, List, Ok, refl, subst}
use Rattle.gql_values3.specs.Datum.{Datum}
use Rattle.gql_values3.specs.PropertyGraph.{PropertyGraph}
use Rattle.gql_ast.specs.declared.clause.Clause.{Clause}
use Rattle.gql_ast.specs.declared.clause.Query.{Query}
use Rattle.gql_linear.specs.Gives.{MayRefuse}
use Rattle.gql_linear.specs.QueryRun.{Working, QueryMayRun, MayRun, answer_table, beginning}
use Rattle.gql_linear.specs.Runs.{Runs}
use Rattle.gql_linear.specs.declared.answer.Answer.{Answer}
use Rattle.gql_linear.specs.declared.answer.RunFault.{RunFault}

module _ (params : List (List ℕ × Datum)) (before : PropertyGraph) (q : Query) (cs : List Clause) (same : cs ≡ q.clauses) where
  pub query_runs : (t : Working) (a : Answer) → MayRun params (beginning before) cs (Ok t) → a.table ≡ answer_table q t → Runs q (Ok a) t.graph (QueryMayRun before params q)
  query_runs t a ran shown = (t, subst (λ (ds : List Clause). MayRun params (beginning before) ds (Ok t)) same ran, shown, refl)

  pub query_refused : (e : RunFault) → MayRefuse (MayRun params (beginning before) cs) e → MayRefuse (QueryMayRun before params q) e
  query_refused e refused = subst (λ (ds : List Clause). MayRefuse (MayRun params (beginning before) ds) e) same refused
