use Rattle.std.proofs.Common.{◌∙◌, ◌<◌, length, arith, to_z}
use mir.Syntax.{w128}
use Rattle.std.proofs.lemmas.Int.{ints}
use Rattle.std.specs.Borrow.{Bor}
use Rattle.gql_values3.specs.Meaning.{datum_of}
use Rattle.gql_values3.specs.declared.value.Value.{Value}
use Rattle.gql_eval.proofs.AggregateLemmas.{total_from_more}
use Rattle.gql_eval.proofs.aggregates.whole_sum.Goals as goal

pub loop-i-preserved : goal.loop-i-preserved
loop-i-preserved c =
    let below : c.loop-i.i < length c.args.values.now = omega arith in
    record {
      so_far = total_from_more (λ (v : Bor Value). datum_of v.now) c.args.values.now c.loop-i.i c.index-values-i.result (to_z w128 c.loop-i.whole-bits) c.in_ok-addend_of.field-0 _ below c.index-values-i.is
          c.in_ok-addend_of.ensures (omega (arith, ints)) ∙ c.loop-i.invariant.so_far;
      low = omega (arith, ints);
      high = omega (arith, ints);
    }
