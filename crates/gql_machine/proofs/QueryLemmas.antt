-- How a query that changes data ends.
use Rattle.std.proofs.Common.{◌≡◌, Bool, true, Option, Some, None, Result, Ok, Err, refl, ap, ◌∙◌, subst}
use Rattle.std.specs.Prelude.{IfOk, if◌then◌else◌}
use Rattle.gql_values3.specs.PropertyGraph.{PropertyGraph}
use Rattle.gql_values3.specs.declared.element.Elem.{Elem}
use Rattle.gql_ast.specs.declared.clause.Query.{Query}
use Rattle.gql_ast.specs.declared.refusal.Outcome.{Outcome}
use Rattle.gql_graph.specs.Catalog.{CatalogData, graph_of}
use Rattle.gql_linear.specs.QueryRun.{Working, answer_table, changes_data, QueryMayRun}
use Rattle.gql_linear.specs.Runs.{Runs}
use Rattle.gql_linear.specs.declared.answer.Answer.{Answer}
use Rattle.gql_txn.specs.TxnData.{misfit_in}
use Rattle.gql_machine.specs.SessionState.{SessionState, graph_or_empty, statement_graph}
use Rattle.gql_machine.specs.StatementRun.{StatementEnd, outcome_of_table, checked_end, QueryMayEnd}
use Rattle.gql_machine.specs.Machinery.Meaning.{statement_end}
use Rattle.gql_machine.specs.Machinery.QueryEnds.{put_end}

put_checked : (s : SessionState) (q : Query) (t : Working) (m : Option Elem) → put_end s (answer_table q t) t.graph m ≡ checked_end s q t m
put_checked s q t None = refl
put_checked s q t (Some m) = refl

if_changes : (b : Bool) (d e : StatementEnd) → b ≡ true → d ≡ (if b then d else e)
if_changes b d e h = rw h refl

-- the graph behind a query was put in the place of the one before
pub put_ends : {F : Type 0} (s after : SessionState) (q : Query) (a : Answer) (c : CatalogData) (g before : PropertyGraph) (r : Result Outcome F) → changes_data q ≡ true → c ≡ s.catalog → before ≡ graph_or_empty (graph_of c s.graph)
    → Runs q (Ok a) g (QueryMayRun before s.parameters q) → IfOk r (λ made. statement_end made after ≡ put_end s a.table g (misfit_in s.catalog s.graph g))
    → IfOk r (λ made. QueryMayEnd s q (statement_end made after))
put_ends s after q a c g before (Ok made) changes same over runs h =
    let t : Working = runs.0 in
    let here : before ≡ statement_graph s = over ∙ ap (λ k. graph_or_empty (graph_of k s.graph)) same in
    let may : QueryMayRun (statement_graph s) s.parameters q (Ok t) = subst (λ (x : PropertyGraph). QueryMayRun x s.parameters q (Ok t)) here runs.1 in
    let put : put_end s a.table g (misfit_in s.catalog s.graph g) ≡ put_end s (answer_table q t) t.graph (misfit_in s.catalog s.graph t.graph) =
    λ i. put_end s (runs.2 i) (runs.3 i) (misfit_in s.catalog s.graph (runs.3 i)) in
    record {
      result = Ok t;
      runs = may;
      ends = h ∙ put ∙ put_checked s q t (misfit_in s.catalog s.graph t.graph)
          ∙ if_changes (changes_data q) (checked_end s q t (misfit_in s.catalog s.graph t.graph)) (record { outcome = outcome_of_table (answer_table q t); after = s }) changes;
    }
put_ends s after q a c g before (Err e) changes same over runs h = tt
