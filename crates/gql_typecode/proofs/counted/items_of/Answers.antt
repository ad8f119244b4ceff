use Rattle.std.proofs.lemmas.Result.{err_from_is_err_and}
use Rattle.gql_fields.specs.Machinery.Reading.{items_at}
use Rattle.gql_fields.proofs.LoopLemmas.{goes_on, ends, is_done}
use Rattle.gql_typecode.proofs.counted.items_of.Goals as goal

pub returns-in_err-one : goal.returns-in_err-one
returns-in_err-one g c =
    let at = g.T.Counted.at in
    let p = err_from_is_err_and c.from_residual.result c.from_residual.ensures.1 in
    rw (p.1, p.2) (ends c.in_err-one.field-0.0 at c.loop.found c.args.count c.loop.counter c.loop.rest.now (items_at at c.args.count c.args.bytes.now) c.loop-test.true c.in_err-one.ensures c.loop.invariant)

pub loop-preserved : goal.loop-preserved
loop-preserved g c =
    let at = g.T.Counted.at in
    rw c.in_ok-push.ensures.ok (goes_on at c.loop.found c.args.count c.loop.counter c.loop.rest.now c.in_ok-one.one c.in_ok-one.after.now (items_at at c.args.count c.args.bytes.now) c.loop-test.true c.in_ok-one.ensures c.loop.invariant)

pub returns : goal.returns
returns g c =
    let at = g.T.Counted.at in
    is_done at c.loop.found c.args.count c.loop.counter c.loop.rest.now (items_at at c.args.count c.args.bytes.now) c.loop-test.false c.loop.invariant
