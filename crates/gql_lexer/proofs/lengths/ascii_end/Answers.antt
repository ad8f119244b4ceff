use Rattle.std.proofs.Common.{◌∙◌, sym, refl, arith}
use Rattle.gql_lexer.proofs.LengthLemmas.{ascii-more}
use Rattle.gql_lexer.proofs.lengths.ascii_end.Goals as goal

pub loop-at-init : goal.loop-at-init
loop-at-init c = record { from = omega arith; here = c.requires; told = refl }

pub loop-at-preserved : goal.loop-at-preserved
loop-at-preserved c = record {
  from = omega (arith, c.loop-at.invariant.from);
  here = omega arith;
  told = ascii-more c.args.rest.now c.loop-at.at c.loop-at-test.true (sym c.may_continue.ensures ∙ c.if-not-may_continue.false) ∙ c.loop-at.invariant.told;
}
