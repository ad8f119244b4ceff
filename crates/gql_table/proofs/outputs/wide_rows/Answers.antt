use Rattle.std.proofs.Common.{◌≡◌, ◌∷◌, ◌++◌, ◌∙◌, List, length, sym, ap, rules, arith, Result, Ok}
use Rattle.std.specs.Vec.Iter.{into_iter_items}
use Rattle.gql_values3.specs.Datum.{Datum}
use Rattle.gql_ast.specs.Faults.{each}
use Rattle.gql_ast.specs.declared.fault.DataFault.{DataFault}
use Rattle.gql_eval.specs.Gives.{Fails}
use Rattle.gql_eval.specs.Machinery.Next.{next}
use Rattle.gql_eval.specs.Preparation.{Preparation}
use Rattle.gql_eval.proofs.EachSteps.{each_step, each_fails, fails_first}
use Rattle.gql_table.specs.Machinery.Preparations.{prepared_value}
use Rattle.gql_table.proofs.outputs.wide_rows.Goals as goal

pub loop-row-preserved : goal.loop-row-preserved
loop-row-preserved g c =
    let graph = g.V.View.graph c.args.view.now in
    let f : List Datum → Result (List Datum) DataFault = λ row. next (each (λ (p : Preparation). prepared_value graph p row) c.args.items.now) (λ out. Ok (out ++ row)) in
    let row : List Datum = c.in-Some.row in
    let left : into_iter_items c.loop-row.row-iterator ≡ row ∷ into_iter_items c.next.new.self = c.in-Some.ensures.steps.0 in
    let values : each (λ (p : Preparation). prepared_value graph p row) c.args.items.now ≡ Ok c.in_ok-wide.wide = rw c.as_slice.ensures at c.in_ok-wide.ensures in
    let here : f row ≡ Ok (c.in_ok-wide.wide ++ row) = ap (λ (r : Result (List Datum) DataFault). next r (λ out. Ok (out ++ row))) values in
    let short = ap length left in
    record {
      whole = rw (c.in_ok-push.ensures.ok, c.in_ok-extend.ensures.ok) (sym (each_step f _ row _ c.loop-row.done _ left here) ∙ c.loop-row.invariant.whole);
      counted = omega (arith, c.in-Some.ensures.steps.1, c.loop-row.invariant.counted);
    }

pub returns-in_err-wide : goal.returns-in_err-wide
returns-in_err-wide g c =
    let graph = g.V.View.graph c.args.view.now in
    let f : List Datum → Result (List Datum) DataFault = λ row. next (each (λ (p : Preparation). prepared_value graph p row) c.args.items.now) (λ out. Ok (out ++ row)) in
    let row : List Datum = c.in-Some.row in
    let e = c.in_err-wide.field-0.0 in
    let left : into_iter_items c.loop-row.row-iterator ≡ row ∷ into_iter_items c.next.new.self = c.in-Some.ensures.steps.0 in
    let values : Fails e (each (λ (p : Preparation). prepared_value graph p row) c.args.items.now) = rw c.as_slice.ensures at c.in_err-wide.ensures in
    let whole : Fails e (each f c.args.rows) = rw (← c.loop-row.invariant.whole) (each_fails f _ row _ e _ left (fails_first e _ _ values)) in
    search rules
