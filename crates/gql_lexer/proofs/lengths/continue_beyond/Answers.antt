use Rattle.std.proofs.Common.{◌∙◌, arith, length-drop}
use Rattle.std.proofs.lemmas.List.{take_rest}
use Rattle.gql_lexer.proofs.LengthLemmas.{continue_length-skip, continue_length-more}
use Rattle.gql_lexer.proofs.lengths.continue_beyond.Goals as goal

pub loop-at-init : goal.loop-at-init
loop-at-init c = record { from = omega arith; here = c.requires; told = continue_length-skip c.args.first c.args.rest.now c.requires }

pub loop-at-preserved : goal.loop-at-preserved
loop-at-preserved c = record {
  from = omega (arith, c.loop-at.invariant.from);
  here = omega (arith, length-drop c.loop-at.at c.args.rest.now, c.in-Some.ensures.bounds);
  told = continue_length-more c.args.rest.now c.loop-at.at c.in-Some.size (rw take_rest at c.in-Some.ensures.value) c.in-Some.ensures.bounds.0 (rw take_rest at c.in-Some.ensures.bounds.1) ∙ c.loop-at.invariant.told;
}
