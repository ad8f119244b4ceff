use Rattle.std.proofs.Common.{◌≡◌, ◌∷◌, ◌∙◌, ◌<◌, ◌+◌, List, map, length, drop, sym, arith, true, false}
use Rattle.gql_values3.specs.Datum.{Datum}
use Rattle.gql_values3.specs.Meaning.{datum_of}
use Rattle.gql_ast.specs.Projections.{has_none}
use Rattle.gql_table.specs.Machinery.GroupPlan.{PreparedPlan}
use Rattle.gql_eval.proofs.EachSteps.{drop_here}
use Rattle.gql_table.proofs.GroupSteps.{key_step, arguments_step}
use Rattle.gql_table.proofs.notes.noted_row.Goals.{then-is_key+in_ok-add_values, else-is_key+in_ok-add_values-2}
use Rattle.gql_table.proofs.notes.noted_row.Goals as goal

pub loop-i-preserved : goal.loop-i-preserved
loop-i-preserved g c =
    let at = c.loop-i in
    let graph = g.V.View.graph c.args.grouping.now.view.now in
    let items = c.args.grouping.now.items.now in
    let row : List Datum = map datum_of c.args.row.now in
    let item = c.index-items-i.result in
    let more : List PreparedPlan = (drop (at.i + 1) items) in
    let below : at.i < length items = omega arith in
    let left : (drop at.i items) ≡ item ∷ more = drop_here items at.i item below c.index-items-i.is in
    elim c.if-is_key.branch [
      | then-is_key+in_ok-add_values w ↦
          let k : has_none item.aggregates ≡ true = sym c.is_key.ensures ∙ w.if-is_key.true in
          rw (w.keys-is, w.arguments-is) (sym (key_step graph row at.keys w.add_values.new.values at.arguments _ more item left k (rw w.noted.ensures at w.in_ok-add_values.ensures)) ∙ at.invariant)
      | else-is_key+in_ok-add_values-2 w ↦
          let k : has_none item.aggregates ≡ false = sym c.is_key.ensures ∙ w.if-is_key.false in
          rw (w.keys-is, w.arguments-is) (sym (arguments_step graph row at.keys at.arguments w.add_values-else-is_key.new.values _ more item left k (rw w.noted-else-is_key.ensures at w.in_ok-add_values-2.ensures)) ∙ at.invariant)
    ]
