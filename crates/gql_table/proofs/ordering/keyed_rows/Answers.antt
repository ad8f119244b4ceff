use Rattle.std.proofs.Common.{◌≡◌, ◌∷◌, ◌∙◌, List, map, length, sym, ap, rules, arith, Result, Ok}
use Rattle.std.specs.Vec.Iter.{into_iter_items}
use Rattle.gql_values3.specs.Datum.{Datum}
use Rattle.gql_ast.specs.Faults.{each}
use Rattle.gql_ast.specs.declared.fault.DataFault.{DataFault}
use Rattle.gql_eval.specs.Gives.{Fails}
use Rattle.gql_eval.specs.Machinery.Next.{next}
use Rattle.gql_eval.specs.Preparation.{Preparation}
use Rattle.gql_eval.proofs.EachSteps.{each_step, each_fails, fails_first}
use Rattle.gql_table.specs.Paging.{Sortable}
use Rattle.gql_table.specs.Machinery.Preparations.{prepared_value, keyed_by}
use Rattle.gql_table.specs.Machinery.Width.{seen}
use Rattle.gql_table.proofs.ordering.keyed_rows.Goals as goal

pub loop-row-preserved : goal.loop-row-preserved
loop-row-preserved g c =
    let graph = g.V.View.graph c.args.view.now in
    let f : Sortable → Result (List Datum × List Datum) DataFault = keyed_by graph c.args.keys.now in
    let row : List Datum = c.in-Some.row in
    let steps : into_iter_items c.loop-row.row-iterator ≡ row ∷ into_iter_items c.next.new.self = c.in-Some.ensures.steps.0 in
    let left : map (seen c.args.width) (into_iter_items c.loop-row.row-iterator) ≡ seen c.args.width row ∷ map (seen c.args.width) (into_iter_items c.next.new.self) = ap (map (seen c.args.width)) steps in
    let values : each (λ (p : Preparation). prepared_value graph p row) c.args.keys.now ≡ Ok c.in_ok-of_row.of_row = rw c.as_slice.ensures at c.in_ok-of_row.ensures in
    let here : f (seen c.args.width row) ≡ Ok (c.in_ok-of_row.of_row, (seen c.args.width row).0) = ap (λ (r : Result (List Datum) DataFault). next r (λ keys. Ok (keys, (seen c.args.width row).0))) values in
    let short = ap length steps in
    record {
      whole = rw (c.in_ok-add_keyed.ensures, c.shown_row.ensures) (sym (each_step f _ (seen c.args.width row) _ c.loop-row.done.items _ left here) ∙ c.loop-row.invariant.whole);
      counted = omega (arith, c.in-Some.ensures.steps.1, c.loop-row.invariant.counted);
    }

pub returns-in_err-of_row : goal.returns-in_err-of_row
returns-in_err-of_row g c =
    let graph = g.V.View.graph c.args.view.now in
    let f : Sortable → Result (List Datum × List Datum) DataFault = keyed_by graph c.args.keys.now in
    let row : List Datum = c.in-Some.row in
    let e = c.in_err-of_row.field-0.0 in
    let steps : into_iter_items c.loop-row.row-iterator ≡ row ∷ into_iter_items c.next.new.self = c.in-Some.ensures.steps.0 in
    let left : map (seen c.args.width) (into_iter_items c.loop-row.row-iterator) ≡ seen c.args.width row ∷ map (seen c.args.width) (into_iter_items c.next.new.self) = ap (map (seen c.args.width)) steps in
    let values : Fails e (each (λ (p : Preparation). prepared_value graph p row) c.args.keys.now) = rw c.as_slice.ensures at c.in_err-of_row.ensures in
    let whole : Fails e (each f (map (seen c.args.width) c.args.rows)) = rw (← c.loop-row.invariant.whole) (each_fails f _ (seen c.args.width row) _ e _ left (fails_first e _ _ values)) in
    search rules
