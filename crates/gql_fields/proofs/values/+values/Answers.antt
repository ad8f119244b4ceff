use Rattle.std.proofs.lemmas.Result.{err_from_is_err_and}
use Rattle.gql_values3.specs.Meaning.{datum_of}
use Rattle.gql_fields.specs.Machinery.Reading.{value_at, items_at}
use Rattle.gql_fields.proofs.LoopLemmas.{goes_on, ends, is_done}
use Rattle.gql_fields.proofs.values.+values.Goals as goal

pub items_of-returns-in_err-item : goal.items_of-returns-in_err-item
items_of-returns-in_err-item t c =
    let p = err_from_is_err_and c.from_residual.result c.from_residual.ensures.1 in
    rw (p.1, p.2) (ends c.in_err-item.field-0.0 (value_at c.args.depth) c.loop.items c.args.count c.loop.counter c.loop.rest.now (items_at (value_at c.args.depth) c.args.count c.args.bytes.now) c.loop-test.true c.in_err-item.ensures c.loop.invariant)

pub items_of-loop-preserved : goal.items_of-loop-preserved
items_of-loop-preserved t c =
    rw c.in_ok-push.ensures.ok (goes_on (value_at c.args.depth) c.loop.items c.args.count c.loop.counter c.loop.rest.now (datum_of c.in_ok-item.item) c.in_ok-item.after.now (items_at (value_at c.args.depth) c.args.count c.args.bytes.now) c.loop-test.true c.in_ok-item.ensures c.loop.invariant)

pub items_of-returns : goal.items_of-returns
items_of-returns t c = is_done (value_at c.args.depth) c.loop.items c.args.count c.loop.counter c.loop.rest.now (items_at (value_at c.args.depth) c.args.count c.args.bytes.now) c.loop-test.false c.loop.invariant
