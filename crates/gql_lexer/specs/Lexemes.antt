-- Lexemes: what the forms mean, and the lexemes of some bytes.
use Rattle.std.specs.Prelude.{ℕ, ◌-◌, Bool, true, false, if◌then◌else◌, List, [], ◌∷◌, length, take, drop, slice_index, codes, Option, None, Some}
use Rattle.std.specs.Option.{option_map}
use Rattle.gql_values3.specs.Names.{reserved_place}
use Rattle.gql_lexer.specs.declared.front.Shape.{Shape}
use Rattle.gql_lexer.specs.declared.front.Shape.TheVariants.{Gap, Plain, Ticked, Quoted, Digits, Dollar, Symbol, Bad}
use Rattle.gql_lexer.specs.declared.lexeme.Lexeme.{Lexeme}
use Rattle.gql_lexer.specs.declared.lexeme.Lexeme.TheVariants.{Word, Name, Chars, Number, Param, Sign}
use Rattle.gql_lexer.specs.Lengths.{begins}
use Rattle.gql_lexer.specs.Spans.{Span, spans}
use Rattle.gql_lexer.specs.Quotes.{text_between}

-- a name that is a reserved word, in any case of its letters, is that word
abbrev pub word_or_name : Option ℕ → List ℕ → Lexeme
word_or_name (Some place) text = Word place text
word_or_name None text = Name text

-- the lexeme of a plain name: the reserved word that it is, or else the name
abbrev pub name_or_word : List ℕ → Lexeme
name_or_word text = word_or_name (reserved_place text) text

-- the bytes without the first and the last
abbrev pub inside : List ℕ → List ℕ
inside bytes = take (length bytes - 2) (drop 1 bytes)

-- a text that is not empty
abbrev pub not_empty : List ℕ → Option (List ℕ)
not_empty [] = None
not_empty (b ∷ bs) = Some (b ∷ bs)

-- a text that is there and not empty
abbrev pub some_text : Option (List ℕ) → Option (List ℕ)
some_text None = None
some_text (Some text) = not_empty text

-- a delimited name is not empty; a backtick is 96
abbrev pub ticked_text : List ℕ → Option (List ℕ)
ticked_text bytes = some_text (text_between 96 (inside bytes))

-- a string; its first byte is the quote
abbrev pub quoted_text : List ℕ → Option (List ℕ)
quoted_text bytes = text_between (slice_index bytes 0) (inside bytes)

-- the name of a parameter, without its `$`
abbrev pub dollar_text : List ℕ → Option (List ℕ)
dollar_text bytes = if begins (codes "`") (drop 1 bytes) then ticked_text (drop 1 bytes) else Some (drop 1 bytes)

-- what bytes of a shape mean, if they are no gap and not bad
abbrev pub lexeme_of : Shape → List ℕ → Option Lexeme
lexeme_of Gap bytes = None
lexeme_of Plain bytes = Some (name_or_word bytes)
lexeme_of Ticked bytes = option_map Name (ticked_text bytes)
lexeme_of Quoted bytes = option_map Chars (quoted_text bytes)
lexeme_of Digits bytes = Some (Number bytes)
lexeme_of Dollar bytes = option_map Param (dollar_text bytes)
lexeme_of (Symbol place) bytes = Some (Sign place)
lexeme_of Bad bytes = None

-- white space and comments
abbrev pub is_gap : Shape → Bool
is_gap Gap = true
is_gap _ = false

-- a lexeme and those behind it, if none of them is bad
abbrev pub with_lexeme : Option Lexeme → Option (List Lexeme) → Option (List Lexeme)
with_lexeme None ls = None
with_lexeme (Some l) None = None
with_lexeme (Some l) (Some ls) = Some (l ∷ ls)

-- gaps are dropped; where one lexeme is bad, there are none
abbrev pub lexemes_of_spans : List Span → Option (List Lexeme)
lexemes_of_spans [] = Some []
lexemes_of_spans (s ∷ ss) = if is_gap s.shape then lexemes_of_spans ss else with_lexeme (lexeme_of s.shape s.bytes) (lexemes_of_spans ss)

-- the lexemes of the bytes, or None where one of them is bad
abbrev pub lexemes_of : List ℕ → Option (List Lexeme)
lexemes_of bs = lexemes_of_spans (spans bs)
