use Rattle.std.proofs.Common.{◌≡◌, ◌∷◌, ◌++◌, ◌∙◌, ◌<◌, ◌+◌, ◌-◌, List, map, length, take, drop, sym, ap, arith, rules, true, false, Ok}
use Rattle.gql_values3.specs.Datum.{Datum}
use Rattle.gql_values3.specs.Meaning.{datum_of}
use Rattle.gql_ast.specs.Projections.{has_none}
use Rattle.gql_eval.specs.Gives.{Fails}
use Rattle.gql_table.specs.Machinery.Preparations.{prepared_value}
use Rattle.gql_table.specs.Machinery.GroupPlan.{PreparedPlan, values_in_group, result_count}
use Rattle.gql_eval.proofs.EachSteps.{drop_here}
use Rattle.gql_table.proofs.GroupSteps.{key_value_step, whole_step, whole_fails, part_is, none_left}
use Rattle.gql_table.proofs.group_rows.item_values.Goals.{then-is_key+in_ok-key_value+in_ok-push, else-is_key+in_ok-prepared_cell+in_ok-push-2}
use Rattle.gql_table.proofs.group_rows.item_values.Goals as goal

pub returns-in_err-prepared_cell : goal.returns-in_err-prepared_cell
returns-in_err-prepared_cell g c =
    let at = c.loop-i in
    let graph = g.V.View.graph c.args.grouping.now.view.now in
    let item = c.index-items-i.result in
    let e = c.in_err-prepared_cell.field-0.0 in
    let keys : List Datum = map datum_of c.args.keys.now in
    let done : List Datum = map datum_of c.args.results.now in
    let more : List PreparedPlan = (drop (at.i + 1) c.args.grouping.now.items.now) in
    let below : at.i < length c.args.grouping.now.items.now = omega arith in
    let left : (drop at.i c.args.grouping.now.items.now) ≡ item ∷ more = drop_here c.args.grouping.now.items.now at.i item below c.index-items-i.is in
    let k : has_none item.aggregates ≡ false = sym c.is_key.ensures ∙ c.if-is_key.false in
    let count : c.width.result ≡ length item.aggregates = c.width.ensures in
    let width : at.from + c.width.result - at.from ≡ length item.aggregates = omega (arith, count) in
    let part = part_is c.args.results.now at.from (at.from + c.width.result - at.from) (length item.aggregates) width in
    let here : Fails e (prepared_value graph item.whole (take (length item.aggregates) (drop at.from done))) = rw (c.whole.ensures, part) at c.in_err-prepared_cell.ensures in
    let whole : Fails e (values_in_group graph c.args.grouping.now.items.now keys done) =
    rw (← at.invariant.whole) (whole_fails graph keys done at.key at.from _ more item e (λ ds. Ok (at.values ++ ds)) left k here) in
    search rules

pub loop-i-preserved : goal.loop-i-preserved
loop-i-preserved g c =
    let at = c.loop-i in
    let graph = g.V.View.graph c.args.grouping.now.view.now in
    let item = c.index-items-i.result in
    let keys : List Datum = map datum_of c.args.keys.now in
    let done : List Datum = map datum_of c.args.results.now in
    let more : List PreparedPlan = (drop (at.i + 1) c.args.grouping.now.items.now) in
    let below : at.i < length c.args.grouping.now.items.now = omega arith in
    let left : (drop at.i c.args.grouping.now.items.now) ≡ item ∷ more = drop_here c.args.grouping.now.items.now at.i item below c.index-items-i.is in
    let rest = ap result_count left in
    elim c.if-is_key.branch [
      | then-is_key+in_ok-key_value+in_ok-push w ↦
          let k : has_none item.aggregates ≡ true = sym c.is_key.ensures ∙ w.if-is_key.true in
          record {
            whole = rw (w.values-is, w.key-is, w.from-is, w.in_ok-push.ensures.ok)
                (sym (key_value_step graph keys done at.key at.from at.values _ more item (datum_of w.in_ok-key_value.field-0) left k w.in_ok-key_value.ensures) ∙ at.invariant.whole);
            left = rw w.from-is (omega (arith, at.invariant.left, rest, none_left item.aggregates k));
            seen = rw w.key-is (omega (arith, at.invariant.seen));
          }
      | else-is_key+in_ok-prepared_cell+in_ok-push-2 w ↦
          let k : has_none item.aggregates ≡ false = sym c.is_key.ensures ∙ w.if-is_key.false in
          let count : w.width.result ≡ length item.aggregates = w.width.ensures in
          let width : at.from + w.width.result - at.from ≡ length item.aggregates = omega (arith, count) in
          let part = part_is c.args.results.now at.from (at.from + w.width.result - at.from) (length item.aggregates) width in
          let here : prepared_value graph item.whole (take (length item.aggregates) (drop at.from done)) ≡ Ok (datum_of w.in_ok-prepared_cell.field-0) = rw (w.whole.ensures, part) at w.in_ok-prepared_cell.ensures in
          record {
            whole = rw (w.values-is, w.key-is, w.from-is, w.in_ok-push-2.ensures.ok)
                (sym (whole_step graph keys done at.key at.from (at.from + w.width.result) at.values _ more item (datum_of w.in_ok-prepared_cell.field-0) left k (ap (λ n. at.from + n) count) here) ∙ at.invariant.whole);
            left = rw w.from-is (omega (arith, at.invariant.left, rest, count));
            seen = rw w.key-is (omega (arith, at.invariant.seen));
          }
    ]
