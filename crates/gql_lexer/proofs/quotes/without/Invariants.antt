use Rattle.std.proofs.Common.{◌≡◌, ◌≤◌, drop, length}
use Rattle.std.specs.Str.{IsUtf8, chars}
use Rattle.gql_lexer.proofs.quotes.without.Given as goal

abbrev pub invariant-loop-place : goal.invariant-loop-place
invariant-loop-place l = record {
  utf8 : IsUtf8 l.rest;
  told : chars l.rest ≡ drop l.place (chars l.text);
  shorter : length l.rest ≤ length l.text;
}
