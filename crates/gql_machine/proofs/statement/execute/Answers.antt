use Rattle.std.proofs.Common.{ap}
use Rattle.gql_ast.specs.declared.refusal.Outcome.TheVariants as outcome
use Rattle.gql_ast.specs.declared.statement.Statement.TheVariants as statement
use Rattle.gql_machine.specs.StatementRun.{MayExecute}
use Rattle.gql_machine.specs.Machinery.Meaning.{session_state, statement_end}
use Rattle.gql_machine.proofs.PieceLemmas.{ends_here}
use Rattle.gql_machine.proofs.StateLemmas.{over}
use Rattle.gql_machine.proofs.statement.execute.Goals as goal

pub returns-in_ok-outcome-in-Query : goal.returns-in_ok-outcome-in-Query
returns-in_ok-outcome-in-Query g c =
    let before = session_state c.args.session.now in
    rw c.in-Query.is
    (ends_here (MayExecute before (statement.Query c.in-Query.query)) c.end_with.result c.in_ok-outcome-in-Query.outcome (session_state c.answer_query.new.session)
    c.in_ok-outcome-in-Query.ensures c.end_with.ensures.outcome c.end_with.ensures.commits)

pub returns-in_ok-run_catalog_statement-in-Catalog : goal.returns-in_ok-run_catalog_statement-in-Catalog
returns-in_ok-run_catalog_statement-in-Catalog g c =
    let s = c.args.session.now in
    rw c.in-Catalog.is
    (ends_here (MayExecute (session_state s) (statement.Catalog c.in-Catalog.statement)) c.end_with-in-Catalog.result outcome.Done (over c.run_catalog_statement.new.txn s.graph s.parameters s.is_closed)
    (ap (λ t. statement_end outcome.Done (over t s.graph s.parameters s.is_closed)) c.in_ok-run_catalog_statement-in-Catalog.ensures) c.end_with-in-Catalog.ensures.outcome c.end_with-in-Catalog.ensures.commits)
