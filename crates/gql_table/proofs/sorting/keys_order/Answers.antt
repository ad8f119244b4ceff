use Rattle.std.proofs.Common.{◌≡◌, ◌<◌, ◌∙◌, length, arith, sym, drop, map}
use Rattle.std.specs.declared.cmp.Ordering.TheVariants.{Equal}
use Rattle.gql_values3.specs.Meaning.{datum_of}
use Rattle.gql_table.specs.Sorting.{key_cmp, first_key}
use Rattle.gql_table.proofs.KeyLemmas.{keys_step, equal_index}
use Rattle.gql_table.proofs.sorting.keys_order.Goals as goal

pub loop-i-preserved : goal.loop-i-preserved
loop-i-preserved c =
    let i = c.loop-i.i in
    let item = c.index-items-i.result in
    let xs = map datum_of c.as_slice-a.result.now in
    let ys = map datum_of c.as_slice-b.result.now in
    let below : i < length c.args.items.now = omega arith in
    let told : c.key_order-order.result ≡ key_cmp item (first_key (drop i xs)) (first_key (drop i ys)) = rw (c.value_at.ensures, c.value_at-in-loop-i.ensures) at c.key_order-order.ensures in
    let tie : key_cmp item (first_key (drop i xs)) (first_key (drop i ys)) ≡ Equal = sym told ∙ equal_index c.key_order-order.result c.if-ne.ensures in
    record {
      whole = keys_step c.args.items.now i item xs ys below c.index-items-i.is tie ∙ c.loop-i.invariant.whole;
      none = c.loop-i.invariant.none;
    }
