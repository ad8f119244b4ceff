use Rattle.std.proofs.Common.{List, [], sym, subst}
use Rattle.std.proofs.lemmas.Result.{err_from_is_err_and}
use Rattle.gql_ast.specs.declared.clause.Clause.{Clause}
use Rattle.gql_linear.specs.SoundQuery.{MatchesAreSound}
use Rattle.gql_linear.proofs.QuerySteps.{query_runs, query_refused}
use Rattle.gql_linear.proofs.query.run_query.Goals as goal

pub run_clauses-requires-clause-sound : goal.run_clauses-requires-clause-sound
run_clauses-requires-clause-sound g c = λ lives outlived. subst (λ (cs : List Clause). MatchesAreSound c.args.params.now [] cs) (sym c.as_slice.ensures) c.requires

pub returns : goal.returns
returns g c =
    let after = g.G.View.graph c.run_clauses.new.graph in
    query_runs c.args.params.now (g.G.View.graph c.args.graph.now) c.args.query.now _ c.as_slice.ensures (record { graph = after; columns = c.in_ok-columns.columns; rows = c.in_ok-columns.rows }) c.in_ok-answered.field-0 c.in_ok-columns.ensures
    (c.in_ok-answered.ensures after)

pub returns-in_err-columns : goal.returns-in_err-columns
returns-in_err-columns g c =
    let p = err_from_is_err_and c.from_residual.result c.from_residual.ensures.1 in
    rw (p.1, p.2) (query_refused c.args.params.now (g.G.View.graph c.args.graph.now) c.args.query.now _ c.as_slice.ensures c.in_err-columns.field-0.0 c.in_err-columns.ensures)
