use Rattle.std.proofs.Common.{◌≡◌, ◌∷◌, ◌∙◌, ◌+◌, ◌-◌, suc, List, map, length, sym, ap, arith}
use Rattle.std.specs.Vec.Iter.{into_iter_items}
use Rattle.gql_values3.specs.Datum.{Datum}
use Rattle.gql_values3.specs.Meaning.{datum_of}
use Rattle.gql_table.proofs.ForLemmas.{counted_step}
use Rattle.gql_table.proofs.for_clause.counted_rows.Goals as goal

pub loop-item-preserved : goal.loop-item-preserved
loop-item-preserved c =
    let at = c.loop-item in
    let item = c.in-Some.item in
    let row : List Datum = c.args.row.now in
    let n = c.first_number-first.result + (c.len-all.result - at.left) in
    let now = map datum_of (into_iter_items c.next.new.self) in
    let steps : into_iter_items at.item-iterator ≡ item ∷ into_iter_items c.next.new.self = c.in-Some.ensures.steps.0 in
    let left : map datum_of (into_iter_items at.item-iterator) ≡ datum_of item ∷ now = ap (map datum_of) steps in
    let short = ap length steps in
    let number : c.first_number-first.result + (c.len-all.result - (at.left - 1)) ≡ suc n = omega (arith, at.invariant.left, at.invariant.within, short) in
    record {
      whole = rw (number, c.in_ok-push.ensures.ok, c.in_ok-counted_row.ensures)
          (sym (counted_step c.args.counter.now row n _ now (datum_of item) (datum_of c.in_ok-number.number) at.rows left c.in_ok-number.ensures) ∙ at.invariant.whole);
      counted = omega (arith, c.in-Some.ensures.steps.1, at.invariant.counted, short);
      left = omega (arith, at.invariant.left, short);
      within = omega (arith, at.invariant.within);
    }
