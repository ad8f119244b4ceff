use Rattle.std.proofs.Common.{◌∙◌, sym, arith, length-drop}
use Rattle.std.proofs.lemmas.List.{take_rest}
use Rattle.gql_lexer.proofs.LexemeLemmas.{gap-on, lexeme-on}
use Rattle.gql_lexer.proofs.lexeme.lexemes.Goals as goal

pub loop-at-preserved-then-is_gap : goal.loop-at-preserved-then-is_gap
loop-at-preserved-then-is_gap c =
    let f = c.longest_form-found.result in
    let n = c.longest_form-found.ensures.bounds in record {
      here = omega (arith, length-drop c.loop-at.at c.args.piece.now, rw take_rest at n.1);
      told = gap-on c.loop-at.all.items c.args.piece.now c.loop-at.at f c.loop-at-test.true (rw take_rest at c.longest_form-found.ensures.value) n.0 (sym c.is_gap.ensures ∙ c.if-is_gap.true)
          ∙ c.loop-at.invariant.told;
    }

pub loop-at-preserved : goal.loop-at-preserved
loop-at-preserved c =
    let f = c.longest_form-found.result in
    let n = c.longest_form-found.ensures.bounds in record {
      here = omega (arith, length-drop c.loop-at.at c.args.piece.now, rw take_rest at n.1);
      told = lexeme-on c.loop-at.all.items c.add.new.all.items c.args.piece.now c.loop-at.at f c.loop-at-test.true (rw take_rest at c.longest_form-found.ensures.value) n.0 (sym c.is_gap.ensures ∙ c.if-is_gap.false) (rw take_rest at c.in_ok-add.ensures)
          ∙ c.loop-at.invariant.told;
    }
