use Rattle.std.proofs.Common.{◌≡◌, ◌∷◌, ◌∙◌, ◌+◌, ◌<◌, ◌≤◌, add_assoc, length, take, drop, sym, ap, arith}
use Rattle.gql_ast.specs.ClauseColumns.{let_columns}
use Rattle.gql_eval.proofs.EachSteps.{drop_here}
use Rattle.gql_table.proofs.LetLemmas.{grown, let_next}
use Rattle.gql_table.proofs.PreparationLemmas.{lets_step}
use Rattle.gql_table.proofs.let_clause.prepare_lets.Goals as goal

pub loop-i-preserved : goal.loop-i-preserved
loop-i-preserved c =
    let all = c.args.columns.now in
    let k = c.args.width + c.loop-i.i in
    let item = c.index-items-i.result in
    let rest = drop (c.loop-i.i + 1) c.args.items.now in
    let below : c.loop-i.i < length c.args.items.now = omega arith in
    let left : drop c.loop-i.i c.args.items.now ≡ item ∷ rest = drop_here c.args.items.now c.loop-i.i item below c.index-items-i.is in
    let within : k ≤ length all = omega (arith, c.requires.width) in
    let more : take (c.args.width + (c.loop-i.i + 1)) all ≡ grown (take k all) item =
    ap (λ n. take n all) (sym (add_assoc c.args.width c.loop-i.i 1)) ∙ let_next all k item _ rest within left c.loop-i.invariant.columns in
    record {
      whole = rw (more, c.in_ok-push.ensures.items, c.in_ok-prepare.ensures)
          (sym (lets_step c.args.params.now c.loop-i.all.items (take k all) item _ rest left) ∙ c.loop-i.invariant.whole);
      columns = rw more (ap (let_columns (take k all)) (sym left) ∙ c.loop-i.invariant.columns);
    }
