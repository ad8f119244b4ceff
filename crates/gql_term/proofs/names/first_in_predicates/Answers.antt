use Rattle.std.proofs.Common.{arith, ◌<◌, ◌+◌, ◌∙◌, length, ap, sym, find}
use Rattle.std.specs.Option.{option_or}
use Rattle.gql_term.specs.Machinery.BarredNames.{barred_by}
use Rattle.gql_term.proofs.NameLemmas.{names_from, found_from}
use Rattle.gql_term.proofs.names.first_in_predicates.Goals as goal

pub returns-in-Some : goal.returns-in-Some
returns-in-Some c =
    let below : c.loop-i.i < length c.args.predicates.now = omega arith in
    let test = barred_by c.args.before.now in
    ap (λ o. option_or o (find test (names_from c.args.predicates.now (c.loop-i.i + 1)))) c.in-Some.ensures
    ∙ sym (found_from test c.args.predicates.now c.loop-i.i c.index-predicates-i.result below c.index-predicates-i.is)
    ∙ c.loop-i.invariant

pub loop-i-preserved : goal.loop-i-preserved
loop-i-preserved c =
    let below : c.loop-i.i < length c.args.predicates.now = omega arith in
    let test = barred_by c.args.before.now in
    ap (λ o. option_or o (find test (names_from c.args.predicates.now (c.loop-i.i + 1)))) c.in_default.ensures
    ∙ sym (found_from test c.args.predicates.now c.loop-i.i c.index-predicates-i.result below c.index-predicates-i.is)
    ∙ c.loop-i.invariant
