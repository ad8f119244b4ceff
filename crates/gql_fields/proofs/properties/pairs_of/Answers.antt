use Rattle.std.proofs.Common.{map, [], ◌∷◌}
use Rattle.std.proofs.lemmas.List.{map-append}
use Rattle.std.proofs.lemmas.Result.{err_from_is_err_and}
use Rattle.gql_fields.specs.Machinery.Reading.{items_at, property_at, pair_of}
use Rattle.gql_fields.proofs.LoopLemmas.{goes_on, ends, is_done}
use Rattle.gql_fields.proofs.properties.pairs_of.Goals as goal

pub returns-in_err-pair : goal.returns-in_err-pair
returns-in_err-pair c =
    let p = err_from_is_err_and c.from_residual-in_err-pair.result c.from_residual-in_err-pair.ensures.1 in
    rw (p.1, p.2) (ends c.in_err-pair.field-0.0 property_at (map pair_of c.loop.pairs) c.args.count c.loop.counter c.loop.rest.now (items_at property_at c.args.count c.args.bytes.now) c.loop-test.true c.in_err-pair.ensures c.loop.invariant)

pub loop-preserved : goal.loop-preserved
loop-preserved c =
    rw (c.in_ok-push.ensures.ok, map-append pair_of c.loop.pairs (c.in_ok-pair.pair ∷ [])) (goes_on property_at (map pair_of c.loop.pairs) c.args.count c.loop.counter c.loop.rest.now (pair_of c.in_ok-pair.pair) c.in_ok-pair.after.now (items_at property_at c.args.count c.args.bytes.now) c.loop-test.true c.in_ok-pair.ensures c.loop.invariant)

pub returns : goal.returns
returns c = is_done property_at (map pair_of c.loop.pairs) c.args.count c.loop.counter c.loop.rest.now (items_at property_at c.args.count c.args.bytes.now) c.loop-test.false c.loop.invariant
