use Rattle.std.proofs.Common.{arith}
use Rattle.std.specs.Str.{chars}
use Rattle.gql_lexer.proofs.QuoteLemmas.{drop-next}
use Rattle.gql_lexer.proofs.quotes.without.Goals as goal

pub loop-place-preserved : goal.loop-place-preserved
loop-place-preserved c = record {
  utf8 = c.in-Some.ensures.2;
  told = drop-next (chars c.args.text.now) (chars c.loop-place.rest.now) (chars c.in-Some.behind.now) c.loop-place.place c.in-Some.field-0-0 c.loop-place.invariant.told c.in-Some.ensures.0;
  shorter = omega (arith, c.in-Some.ensures.1, c.loop-place.invariant.shorter);
}
