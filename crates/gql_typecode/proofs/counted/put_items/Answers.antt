use Rattle.std.proofs.Common.{◌∙◌}
use Rattle.gql_fields.proofs.PutLemmas.{put_more, put_all, put_none, kept_more, kept_all}
use Rattle.gql_typecode.proofs.OrderLemmas.{item_of_all}
use Rattle.gql_typecode.proofs.counted.put_items.Goals as goal

pub put-requires : goal.put-requires
put-requires g c = item_of_all g.T.Counted.in_order c.args.items.now c.loop-one.one-index c.one-item.result c.loop-one-test.true c.one-item.is c.requires

pub loop-one-init : goal.loop-one-init
loop-one-init g c = record { written = put_none g.T.Counted.spelled c.args.out.now c.args.items.now; kept = tt }

pub loop-one-preserved : goal.loop-one-preserved
loop-one-preserved g c = record {
  written = c.in_ok-put.ensures.written ∙ put_more g.T.Counted.spelled c.args.out.now c.loop-one.out c.args.items.now c.loop-one.one-index c.one-item.result c.loop-one-test.true c.one-item.is c.loop-one.invariant.written;
  kept = kept_more g.T.Counted.kept c.args.items.now c.loop-one.one-index c.one-item.result c.loop-one-test.true c.one-item.is c.loop-one.invariant.kept c.in_ok-put.ensures.kept;
}

pub returns : goal.returns
returns g c = record {
  written = put_all g.T.Counted.spelled c.args.out.now c.loop-one.out c.args.items.now c.loop-one.one-index c.loop-one-test.false c.loop-one.invariant.written;
  kept = kept_all g.T.Counted.kept c.args.items.now c.loop-one.one-index c.loop-one-test.false c.loop-one.invariant.kept;
}
