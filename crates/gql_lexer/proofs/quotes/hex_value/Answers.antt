use Rattle.std.proofs.Common.{◌≡◌, ◌∙◌, ◌-◌, ◌+◌, ap, sym, arith}
use Rattle.std.specs.Str.{chars}
use Rattle.gql_lexer.specs.Quotes.{hex_value}
use Rattle.gql_lexer.proofs.QuoteLemmas.{bound-fits, bound-more}
use Rattle.gql_lexer.proofs.quotes.hex_value.Goals as goal

pub overflow_mul-value : goal.overflow_mul-value
overflow_mul-value c = omega (arith, bound-fits c.loop-place.place (omega (arith, c.requires)), c.loop-place.invariant.small)

pub overflow_add-value : goal.overflow_add-value
overflow_add-value c = omega (arith, bound-fits c.loop-place.place (omega (arith, c.requires)), c.loop-place.invariant.small, c.in-Some.ensures.0)

pub loop-place-preserved : goal.loop-place-preserved
loop-place-preserved c = record {
  utf8 = c.in-Some.ensures.2;
  small = bound-more c.loop-place.place c.loop-place.value c.in-Some.digit c.loop-place.invariant.small c.in-Some.ensures.0;
  told = let k = c.args.count - (c.loop-place.place + 1) in
      let e : k + 1 ≡ c.args.count - c.loop-place.place = omega arith in
      sym (c.in-Some.ensures.1 c.loop-place.value k) ∙ ap (λ n. hex_value c.loop-place.value n (chars c.loop-place.rest.now)) e ∙ c.loop-place.invariant.told;
}
