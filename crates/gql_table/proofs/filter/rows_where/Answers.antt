use Rattle.std.proofs.Common.{◌≡◌, ◌∷◌, ◌++◌, [], ◌∙◌, ◌<◌, ◌+◌, List, length, take, drop, get_or, cond, sym, ap, append-nil, arith, Result, Ok}
use Rattle.std.proofs.lemmas.List.Edits.{length-swap}
use Rattle.gql_values3.specs.Datum.{Datum}
use Rattle.gql_ast.specs.declared.fault.DataFault.{DataFault}
use Rattle.gql_eval.specs.Machinery.Next.{next}
use Rattle.gql_eval.specs.RowLists.{RowList, each_some}
use Rattle.gql_eval.proofs.EachSteps.{drop_here, some_step}
use Rattle.gql_table.specs.Filter.{filter_row, kept_if}
use Rattle.gql_table.proofs.PreparationLemmas.{kept_is, swapped_rest, swapped_front}
use Rattle.gql_table.proofs.filter.rows_where.Goals as goal

pub loop-i-preserved : goal.loop-i-preserved
loop-i-preserved g c =
    let at = c.loop-i in
    let p = c.args.condition.now in
    let f : List Datum → Result RowList DataFault = filter_row (g.V.View.graph c.args.view.now) p.params p.columns p.tree in
    let items : RowList = at.left.items in
    let row : List Datum = c.index.result.now in
    let truth = c.in_ok-truth_at.field-0 in
    let long : length c.into_vec-left.result.items ≡ length c.args.rows = ap length c.into_vec-left.ensures in
    let below : at.i < length items = omega (arith, c.len-i-end.ensures, c.into_vec-left.result.ok.0, long, at.invariant.same) in
    let here : row ≡ get_or items at.i row = c.index.ensures in
    let left : drop at.i items ≡ row ∷ drop (at.i + 1) items = drop_here items at.i row below here in
    let given : f row ≡ Ok (kept_if truth row) = ap (λ s. next s (λ t. Ok (kept_if t row))) c.in_ok-truth_at.ensures in
    let step = some_step f _ row _ (take at.kept items) (kept_if truth row) left given in
    elim c.if-is_true.branch [
      | goal.then-is_true w ↦
          let kept : kept_if truth row ≡ row ∷ [] = kept_is truth row ∙ ap (λ b. cond b (row ∷ []) []) (sym c.is_true.ensures ∙ w.if-is_true.true) in
          record {
            whole = rw (w.left-is, w.kept-is, w.swap.ensures.items, swapped_rest items at.kept at.i row at.invariant.within below here, swapped_front items at.kept at.i row at.invariant.within below here)
                (ap (λ (l : RowList). next (each_some f (drop (at.i + 1) items)) (λ ys. Ok ((take at.kept items ++ l) ++ ys))) (sym kept) ∙ sym step ∙ at.invariant.whole);
            within = rw w.kept-is (omega (arith, at.invariant.within));
            same = rw (w.left-is, w.swap.ensures.items) (length-swap items at.kept at.i ∙ at.invariant.same);
          }
      | goal.else-is_true w ↦
          let kept : take at.kept items ≡ take at.kept items ++ kept_if truth row =
          sym (ap (λ (l : RowList). take at.kept items ++ l) (kept_is truth row ∙ ap (λ b. cond b (row ∷ []) []) (sym c.is_true.ensures ∙ w.if-is_true.false)) ∙ append-nil (take at.kept items)) in
          record {
            whole = rw (w.left-is, w.kept-is)
                (ap (λ (l : RowList). next (each_some f (drop (at.i + 1) items)) (λ ys. Ok (l ++ ys))) kept ∙ sym step ∙ at.invariant.whole);
            within = rw w.kept-is (omega (arith, at.invariant.within));
            same = rw w.left-is at.invariant.same;
          }
    ]
