use Rattle.std.proofs.Common.{ℕ, ◌<◌, ◌≤◌, ◌∙◌, ◌++◌, ◌+◌, ap, sym, arith, length-drop}
use Rattle.std.proofs.lemmas.List.{take_rest}
use Rattle.gql_lexer.proofs.SpanLemmas.{pieces_at, found-on, found-cut}
use Rattle.gql_lexer.specs.Pieces.{NoEndFrom}
use Rattle.gql_lexer.proofs.PieceLemmas.{last-piece, no-last_piece}
use Rattle.gql_lexer.proofs.piece.pieces.Goals as goal
use Rattle.gql_lexer.proofs.piece.pieces.Goals.{then-start-bytes+in_ok-cut-2, else-start-bytes}

within : {at read size : ℕ} → read ≤ size → at < read → at < size
within bound h = omega (arith, bound)

pub loop-at-preserved : goal.loop-at-preserved
loop-at-preserved c =
    let f = c.longest_form-found.result in
    let n = c.longest_form-found.ensures.bounds in record {
      order = omega arith;
      here = omega (arith, length-drop c.loop-at.at c.args.bytes.now, rw take_rest at n.1);
      told = ap (λ ps. ps ++ pieces_at c.args.bytes.now (c.loop-at.at + f.size) (c.loop-at.at + f.size)) c.in_ok-cut.ensures
          ∙ found-cut c.loop-at.all c.args.bytes.now c.loop-at.start c.loop-at.at f (within c.up_to_last-read.ensures.bound c.loop-at-test.true) (rw take_rest at c.longest_form-found.ensures.value) n.0 (sym c.is_end.ensures ∙ c.if-not-is_end.false)
          ∙ c.loop-at.invariant.told;
    }

pub loop-at-preserved-then-not-is_end : goal.loop-at-preserved-then-not-is_end
loop-at-preserved-then-not-is_end c =
    let f = c.longest_form-found.result in
    let n = c.longest_form-found.ensures.bounds in record {
      order = omega (arith, c.loop-at.invariant.order);
      here = omega (arith, length-drop c.loop-at.at c.args.bytes.now, rw take_rest at n.1);
      told = ap (λ ps. c.loop-at.all ++ ps) (found-on c.args.bytes.now c.loop-at.start c.loop-at.at f c.loop-at.invariant.order (within c.up_to_last-read.ensures.bound c.loop-at-test.true) (rw take_rest at c.longest_form-found.ensures.value) n.0 (sym c.is_end.ensures ∙ c.if-not-is_end.true))
          ∙ c.loop-at.invariant.told;
    }

pub returns : goal.returns
returns c =
    let bs = c.args.bytes.now in
    let quiet : NoEndFrom c.loop-at.at bs = λ k g. c.up_to_last-read.ensures.behind k (omega (arith, c.loop-at-test.false)) in
    elim c.if-start-bytes.branch [
      | then-start-bytes+in_ok-cut-2 w ↦ w.all-is ∙ (rw take_rest at w.in_ok-cut-2.ensures) ∙ last-piece c.loop-at.all bs c.loop-at.start c.loop-at.at c.loop-at.invariant.order quiet w.if-start-bytes.true ∙ c.loop-at.invariant.told
      | else-start-bytes w ↦ w.all-is ∙ no-last_piece c.loop-at.all bs c.loop-at.start c.loop-at.at c.loop-at.invariant.order quiet (omega (arith, w.if-start-bytes.false)) ∙ c.loop-at.invariant.told
    ]
