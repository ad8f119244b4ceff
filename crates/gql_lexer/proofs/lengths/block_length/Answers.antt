use Rattle.std.proofs.Common.{◌≡◌, drop, false, ◌∙◌, sym, arith, length-drop}
use Rattle.std.specs.Prelude.{codes}
use Rattle.std.proofs.lemmas.List.{take_rest}
use Rattle.gql_lexer.specs.Lengths.{begins, block_length}
use Rattle.gql_lexer.proofs.LengthLemmas.{ahead-step, block_length-past}
use Rattle.gql_lexer.proofs.lengths.block_length.Goals as goal

pub loop-at-preserved : goal.loop-at-preserved
loop-at-preserved c =
    let here : false ≡ begins (codes "*/") (drop c.loop-at.at c.args.rest.now) = rw take_rest at c.if-closes_block.ensures.value in record {
      here = omega arith;
      told = c.loop-at.invariant.told ∙ ahead-step block_length c.args.rest.now c.loop-at.at 1 (block_length-past (drop c.loop-at.at c.args.rest.now) (omega (arith, length-drop c.loop-at.at c.args.rest.now)) (sym here));
    }
