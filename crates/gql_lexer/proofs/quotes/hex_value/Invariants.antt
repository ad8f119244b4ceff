use Rattle.std.proofs.Common.{◌≡◌, ◌-◌, ◌<◌}
use Rattle.std.specs.Str.{IsUtf8, chars}
use Rattle.gql_lexer.specs.Quotes.{hex_value}
use Rattle.gql_lexer.proofs.QuoteLemmas.{bound}
use Rattle.gql_lexer.proofs.quotes.hex_value.Given as goal

abbrev pub invariant-loop-place : goal.invariant-loop-place
invariant-loop-place l = record {
  utf8 : IsUtf8 l.rest;
  small : l.value < bound l.place;
  told : hex_value l.value (l.count - l.place) (chars l.rest) ≡ hex_value 0 l.count (chars l.text);
}
