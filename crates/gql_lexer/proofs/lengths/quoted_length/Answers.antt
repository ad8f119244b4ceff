use Rattle.std.proofs.Common.{◌∙◌, arith, length-drop}
use Rattle.std.proofs.lemmas.List.{take_rest}
use Rattle.gql_lexer.specs.Lengths.{quoted_length}
use Rattle.gql_lexer.proofs.LengthLemmas.{ahead-step}
use Rattle.gql_lexer.proofs.lengths.quoted_length.Goals as goal

pub loop-at-preserved : goal.loop-at-preserved
loop-at-preserved c = record {
  here = let e = length-drop c.loop-at.at c.args.rest.now in omega (arith, e, c.in-Some.ensures.bounds);
  told = c.loop-at.invariant.told ∙ ahead-step (quoted_length c.args.quote) c.args.rest.now c.loop-at.at c.in-Some.size (rw take_rest at c.in-Some.ensures.goes_on);
}
