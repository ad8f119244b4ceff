-- Firsts: what the first byte tells of the form.
use Rattle.std.specs.Prelude.{◌≡◌, ℕ, Bool, true, false, not, ◌&&◌, ◌||◌, ◌==◌, nat_le, List, [], ◌∷◌}
use Rattle.std.specs.Char.{is_ascii_alphabetic}
use Rattle.gql_lexer.specs.declared.first.First.{First}
use Rattle.gql_lexer.specs.declared.first.First.TheVariants.{Alone, Less, Greater, Tilde, Colon, Bar, Minus, Slash, Blank, Letter, Other}
use Rattle.gql_lexer.specs.declared.front.Shape.TheVariants.{Symbol}
use Rattle.gql_lexer.specs.Forms.{form, is_blank, symbols, front}

-- an ASCII letter, or `_`, which is 95
abbrev pub is_ascii_start : ℕ → Bool
is_ascii_start b = is_ascii_alphabetic b || (b == 95)

-- the same, or a byte of a character beyond ASCII: only such a byte begins a name
abbrev pub is_letter : ℕ → Bool
is_letter b = is_ascii_start b || nat_le 128 b

-- no text of some begins with the byte
abbrev pub none_begins : ℕ → List (List ℕ) → Bool
none_begins b [] = true
none_begins b ([] ∷ ss) = false
none_begins b ((x ∷ s) ∷ ss) = not (x == b) && none_begins b ss

-- what a byte tells, whatever stands behind it
abbrev pub Told : ℕ → First → Type 0
Told b (Alone place) = (bs : List ℕ) → form (Symbol place) 1 ≡ front (b ∷ bs)
Told b Less = b ≡ 60
Told b Greater = b ≡ 62
Told b Tilde = b ≡ 126
Told b Colon = b ≡ 58
Told b Bar = b ≡ 124
Told b Minus = b ≡ 45
Told b Slash = b ≡ 47
Told b Blank = is_blank b ≡ true
Told b Letter = is_ascii_start b ≡ true
Told b Other = (is_blank b ≡ false) × ((is_ascii_start b ≡ false) × (none_begins b symbols ≡ true))
