-- PartWords: what the words inside parts say.
use Rattle.std.specs.Prelude.{Bool, ◌||◌}
use Rattle.gql_lexer.specs.declared.lexeme.Lexeme.{Lexeme}
use Rattle.gql_lexer.specs.SymbolPlaces.{colon}
use Rattle.gql_lexer.specs.WordPlaces.{IS}
use Rattle.gql_front.specs.Reading.{is_sign, is_word}

-- ":" or IS before labels, which say the same
abbrev pub is_colon : Lexeme → Bool
is_colon t = is_sign colon t || is_word IS t
