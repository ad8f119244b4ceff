-- Forms: which form stands at the front of some bytes. It is the longest of those that could.
use Rattle.std.specs.Prelude.{ℕ, ◌+◌, Bool, ◌||◌, ◌==◌, nat_lt, if◌then◌else◌, List, [], ◌∷◌, length, drop, codes, Option, None, Some}
use Rattle.std.specs.List.{prefix_len}
use Rattle.std.specs.Option.{option_map, option_or}
use Rattle.std.specs.Char.{is_ascii_digit}
use Rattle.gql_lexer.specs.declared.front.Shape.{Shape}
use Rattle.gql_lexer.specs.declared.front.Shape.TheVariants.{Gap, Plain, Ticked, Quoted, Digits, Dollar, Symbol, Bad}
use Rattle.gql_lexer.specs.declared.front.Front.{Front}
use Rattle.gql_lexer.specs.Lengths.{begins, line_length, block_length, quoted_length, name_length}

-- a form of a shape, and the bytes that it takes
abbrev pub form : Shape → ℕ → Front
form shape size = record { shape = shape; size = size }

-- a form that has to be closed: where it is not, all bytes up to the end are bad
abbrev pub closed : Shape → Option ℕ → List ℕ → Front
closed shape (Some size) bs = form shape size
closed shape None bs = form Bad (length bs)

-- white space: space, tab, line feed, carriage return and form feed
abbrev pub is_blank : ℕ → Bool
is_blank b = (b == 32) || (b == 9) || (b == 10) || (b == 13) || (b == 12)

-- one byte of white space
abbrev pub blank : List ℕ → Option Front
blank [] = None
blank (b ∷ bs) = if is_blank b then Some (form Gap 1) else None

-- `//` or `--`, and what stands before the next line feed
abbrev pub line_comment : List ℕ → Option Front
line_comment bs = if begins (codes "//") bs || begins (codes "--") bs then Some (form Gap (2 + line_length (drop 2 bs))) else None

-- `/*`, and what stands behind it up to the next `*/`
abbrev pub block_comment : List ℕ → Option Front
block_comment bs = if begins (codes "/*") bs then Some (closed Gap (option_map (λ n. n + 4) (block_length (drop 2 bs))) bs) else None

-- a name or a reserved word
abbrev pub plain : List ℕ → Option Front
plain bs = option_map (form Plain) (name_length bs)

-- a text between two quotes of a kind
abbrev pub between : ℕ → Shape → List ℕ → Option Front
between quote shape bs = if begins (quote ∷ []) bs
    then Some (closed shape (option_map (λ n. n + 2) (quoted_length quote (drop 1 bs))) bs) else None

-- a delimited name stands between backticks, which are 96
abbrev pub ticked : List ℕ → Option Front
ticked bs = between 96 Ticked bs

-- a string stands between two `'`, which are 39
abbrev pub single_quoted : List ℕ → Option Front
single_quoted bs = between 39 Quoted bs

-- a string stands between two `"` as well, which are 34
abbrev pub double_quoted : List ℕ → Option Front
double_quoted bs = between 34 Quoted bs

-- a number is all the digits that stand there
abbrev pub digits : List ℕ → Option Front
digits bs = let n = prefix_len is_ascii_digit bs in if nat_lt 0 n then Some (form Digits n) else None

-- a name behind a `$`, which is 36; what a backtick begins goes with it, also where that is bad
abbrev pub dollar_shape : Shape → Shape
dollar_shape Bad = Bad
dollar_shape _ = Dollar

-- the form behind a `$`, and the `$` with it
abbrev pub with_dollar : Front → Front
with_dollar f = form (dollar_shape f.shape) (f.size + 1)

-- a parameter: a `$`, and a plain or a delimited name right behind it
abbrev pub dollar : List ℕ → Option Front
dollar bs = if begins (codes "$") bs then option_map with_dollar (option_or (plain (drop 1 bs)) (ticked (drop 1 bs))) else None

-- the symbols; others speak of them by their places, which count from 0
unfoldable pub symbols : List (List ℕ)
symbols =
    codes "<->" ∷ codes "|+|" ∷ codes "<-" ∷ codes "->" ∷ codes "<~" ∷ codes "~>" ∷ codes "<>" ∷ codes "<=" ∷ codes ">=" ∷
    codes "||" ∷ codes "::" ∷ codes "-" ∷ codes "~" ∷ codes "<" ∷ codes ">" ∷ codes "=" ∷ codes "+" ∷ codes "*" ∷ codes "/" ∷
    codes "%" ∷ codes "(" ∷ codes ")" ∷ codes "[" ∷ codes "]" ∷ codes "{" ∷ codes "}" ∷ codes "," ∷ codes ":" ∷ codes "." ∷
    codes "&" ∷ codes "|" ∷ codes "!" ∷ codes "?" ∷ codes ";" ∷ []

-- each of the texts that the bytes begin with; the first text has the place
abbrev pub symbols_from : ℕ → List (List ℕ) → List ℕ → List (Option Front)
symbols_from place [] bs = []
symbols_from place (s ∷ ss) bs =
    (if begins s bs then Some (form (Symbol place) (length s)) else None) ∷ symbols_from (place + 1) ss bs

-- all the forms
abbrev pub forms : List ℕ → List (Option Front)
forms bs = blank bs ∷ line_comment bs ∷ block_comment bs ∷ plain bs ∷ ticked bs ∷ single_quoted bs ∷ double_quoted bs
    ∷ digits bs ∷ dollar bs ∷ symbols_from 0 symbols bs

-- the longer of two; the first where they are equally long
abbrev pub longer : Option Front → Front → Front
longer None g = g
longer (Some f) g = if nat_lt f.size g.size then g else f

-- the longest of the forms that are there and one more; the first where some are equally long
abbrev pub longest : List (Option Front) → Front → Front
longest [] g = g
longest (f ∷ fs) g = longer f (longest fs g)

-- the longest form that stands at the front; where none does, the first byte is bad by itself
unfoldable pub front : List ℕ → Front
front bs = longest (forms bs) (form Bad 1)
