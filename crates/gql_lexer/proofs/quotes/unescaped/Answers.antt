use Rattle.std.proofs.Common.{◌∙◌, ap}
use Rattle.std.specs.String.{string_bytes}
use Rattle.std.specs.Str.{chars}
use Rattle.gql_lexer.specs.Quotes.{unescaped}
use Rattle.gql_lexer.proofs.QuoteLemmas.{made_with, unescaped-more}
use Rattle.gql_lexer.proofs.quotes.unescaped.Goals as goal

pub loop-first-preserved : goal.loop-first-preserved
loop-first-preserved c = record {
  utf8 = c.without-rest.ensures.utf8;
  told = ap (λ made. made_with made (unescaped c.args.quote 0 (chars c.without-rest.result.now))) c.in_ok-push-in-Some-part_of.ensures.bytes
      ∙ unescaped-more c.args.quote c.in-Some.first (string_bytes c.loop-first.made) (chars c.in-Some.behind.now) (chars c.without-rest.result.now) (chars c.loop-first.rest.now) c.in-Some-part_of.part
      c.in-Some.ensures.0 c.in-Some-part_of.ensures c.without-rest.ensures.chars
      ∙ c.loop-first.invariant.told;
}
