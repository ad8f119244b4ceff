use Rattle.std.proofs.Common.{sym, ◌∙◌}
use Rattle.gql_ast.proofs.LastClause.{last_is}
use Rattle.gql_ast.proofs.last_clause.ends_in_change.Goals as goal

pub returns-in-Some : goal.returns-in-Some
returns-in-Some c = c.is_change.ensures ∙ last_is c.args.clauses.now c.in-Some.clause.now (sym c.in-Some.ensures.value)
