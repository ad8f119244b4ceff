-- Quotes: the text that stands between two quotes or backticks.
use Rattle.std.specs.Prelude.{ℕ, zero, suc, ◌+◌, ◌*◌, Bool, ◌&&◌, ◌||◌, ◌==◌, nat_lt, if◌then◌else◌, List, [], ◌∷◌, Option, None, Some}
use Rattle.std.specs.Option.{option_map, option_and_then}
use Rattle.std.specs.Char.{digit_value}
use Rattle.std.specs.Str.{chars, is_utf8, encode_utf8_all}
use Rattle.gql_lexer.specs.declared.quotes.Part.{Part}

-- what one letter behind a backslash stands for: `\\`, `\'`, `\"`, `\n`, `\r`, `\t`, `\b` and `\f`
abbrev pub short_escape : ℕ → Option ℕ
short_escape c =
    if c == 92 then Some 92 else (if c == 39 then Some 39 else (if c == 34 then Some 34 else (if c == 110 then Some 10
    else (if c == 114 then Some 13 else (if c == 116 then Some 9 else (if c == 98 then Some 8 else (if c == 102 then Some 12 else None)))))))

-- a Unicode scalar value: no surrogate, and no more than 10FFFF
abbrev pub is_scalar : ℕ → Bool
is_scalar n = nat_lt n 0xD800 || (nat_lt 0xDFFF n && nat_lt n 0x11_0000)

-- the number that so many hexadecimal digits write behind the value of those before
abbrev pub hex_value : ℕ → ℕ → List ℕ → Option ℕ
hex_value value zero cs = Some value
hex_value value (suc n) [] = None
hex_value value (suc n) (c ∷ cs) = if nat_lt (digit_value c) 16 then hex_value (value * 16 + digit_value c) n cs else None

-- a scalar value by so many hexadecimal digits behind `\u` or `\U`
abbrev pub coded : ℕ → List ℕ → Option Part
coded n cs = option_and_then (λ v. if is_scalar v then Some (record { meant = v; size = n + 1 }) else None) (hex_value 0 n cs)

-- what stands behind a backslash: `\u` has four digits and `\U` six
abbrev pub escape : List ℕ → Option Part
escape [] = None
escape (c ∷ cs) = if c == 117 then coded 4 cs else (if c == 85 then coded 6 cs
    else option_map (λ d. record { meant = d; size = 1 }) (short_escape c))

-- what a character stands for with those behind it: a backslash begins an escape, and a quote stands there twice
abbrev pub part : ℕ → ℕ → List ℕ → Option Part
part quote c cs = if c == 92 then escape cs else Some (record { meant = c; size = if c == quote then 1 else 0 })

-- what all the characters stand for; the first of them, skip many, belong to the one before
abbrev pub unescaped : ℕ → ℕ → List ℕ → Option (List ℕ)
unescaped quote skip [] = Some []
unescaped quote (suc skip) (c ∷ cs) = unescaped quote skip cs
unescaped quote zero (c ∷ cs) = option_and_then (λ p. option_map (λ t. p.meant ∷ t) (unescaped quote p.size cs)) (part quote c cs)

-- the text, if the bytes between the quotes are UTF-8 and each escape is one
abbrev pub text_between : ℕ → List ℕ → Option (List ℕ)
text_between quote bytes = if is_utf8 bytes then option_map encode_utf8_all (unescaped quote 0 (chars bytes)) else None
