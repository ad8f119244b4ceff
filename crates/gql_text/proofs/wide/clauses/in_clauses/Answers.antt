use Rattle.std.proofs.Common.{◌<◌, ◌+◌, ◌∙◌, length, ap, sym, arith}
use Rattle.std.specs.Option.{option_or}
use Rattle.gql_ast.specs.NumberLiterals.{numbers_in_clause}
use Rattle.gql_text.proofs.FindLemmas.{found, in_item}
use Rattle.gql_text.proofs.wide.clauses.in_clauses.Goals as goal

pub returns-in-Some : goal.returns-in-Some
returns-in-Some c =
    let below : c.loop-clause.clause-index < length c.args.clauses.now = omega arith in
    let step = in_item numbers_in_clause c.args.clauses.now c.loop-clause.clause-index c.clause-item.result below c.clause-item.is in
    ap (λ o. option_or o (found numbers_in_clause c.args.clauses.now (c.loop-clause.clause-index + 1))) c.in-Some.ensures ∙ sym step ∙ c.loop-clause.invariant

pub loop-clause-preserved : goal.loop-clause-preserved
loop-clause-preserved c =
    let below : c.loop-clause.clause-index < length c.args.clauses.now = omega arith in
    let step = in_item numbers_in_clause c.args.clauses.now c.loop-clause.clause-index c.clause-item.result below c.clause-item.is in
    ap (λ o. option_or o (found numbers_in_clause c.args.clauses.now (c.loop-clause.clause-index + 1))) c.in_default.ensures ∙ sym step ∙ c.loop-clause.invariant
