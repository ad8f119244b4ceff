-- Depth: how deep brackets are nested, by a count from the left.
use Rattle.std.specs.Prelude.{ℕ, ◌+◌, ◌-◌, Bool, false, ◌||◌, ◌==◌, if◌then◌else◌, List, [], ◌∷◌}
use Rattle.std.specs.List.{list_any}
use Rattle.gql_lexer.specs.declared.lexeme.Lexeme.{Lexeme}
use Rattle.gql_lexer.specs.declared.lexeme.Lexeme.TheVariants.{Sign}
use Rattle.gql_lexer.specs.SymbolPlaces.{opening, closing, opening_bracket, closing_bracket, opening_brace, closing_brace}

-- an opening bracket of any kind
abbrev pub is_opening : Lexeme → Bool
is_opening (Sign place) = (place == opening) || (place == opening_bracket) || (place == opening_brace)
is_opening _ = false

-- a closing bracket of any kind
abbrev pub is_closing : Lexeme → Bool
is_closing (Sign place) = (place == closing) || (place == closing_bracket) || (place == closing_brace)
is_closing _ = false

-- the count behind a lexeme: an opening bracket adds one, and a closing one takes one away, but none from 0
abbrev pub count_behind : ℕ → Lexeme → ℕ
count_behind count l = if is_opening l then count + 1 else if is_closing l then count - 1 else count

-- the counts at all places of the lexemes, from the left, where the first is known
abbrev pub counts_from : ℕ → List Lexeme → List ℕ
counts_from count [] = count ∷ []
counts_from count (l ∷ ls) = count ∷ counts_from (count_behind count l) ls

-- brackets are too deep where the count, which starts at 0, reaches 65
abbrev pub too_deep : List Lexeme → Bool
too_deep ls = list_any (λ count. count == 65) (counts_from 0 ls)
