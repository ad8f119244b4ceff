use Rattle.std.proofs.Common.{◌≡◌, length}
use Rattle.std.specs.Option.{option_map}
use Rattle.std.specs.String.{string_bytes}
use Rattle.std.specs.Str.{IsUtf8, chars, encode_utf8_all}
use Rattle.gql_lexer.specs.Quotes.{unescaped}
use Rattle.gql_lexer.proofs.QuoteLemmas.{made_with}
use Rattle.gql_lexer.proofs.quotes.unescaped.Given as goal

abbrev pub invariant-loop-first : goal.invariant-loop-first
invariant-loop-first l =
    record { utf8 : IsUtf8 l.rest; told : made_with (string_bytes l.made) (unescaped l.quote 0 (chars l.rest)) ≡ option_map encode_utf8_all (unescaped l.quote 0 (chars l.text)) }

abbrev pub decreases-loop-first : goal.decreases-loop-first
decreases-loop-first l = length l.rest
