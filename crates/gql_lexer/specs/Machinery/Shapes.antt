-- Shapes: what the shape of a form tells of its bytes.
use Rattle.std.specs.Prelude.{◌≡◌, ℕ, ◌≤◌, true, ◌==◌, List, [], ◌∷◌, length, drop, ⊤}
use Rattle.std.specs.Bool.{MatchBool}
use Rattle.std.specs.Str.{IsUtf8}
use Rattle.gql_lexer.specs.declared.front.Shape.{Shape}
use Rattle.gql_lexer.specs.declared.front.Shape.TheVariants.{Gap, Plain, Ticked, Quoted, Digits, Dollar, Symbol, Bad}
use Rattle.gql_lexer.specs.SymbolPlaces.{semicolon}
use Rattle.gql_lexer.specs.Lengths.{begins}

-- names and numbers are UTF-8, texts have both their quotes, and only `;`, which is 59, is that symbol
abbrev pub Tells : Shape → List ℕ → Type 0
Tells Plain bytes = IsUtf8 bytes
Tells Digits bytes = IsUtf8 bytes
Tells Ticked bytes = 2 ≤ length bytes
Tells Quoted bytes = 2 ≤ length bytes
Tells Dollar bytes = (2 ≤ length bytes) × MatchBool (begins (96 ∷ []) (drop 1 bytes)) (3 ≤ length bytes) (IsUtf8 (drop 1 bytes))
Tells (Symbol place) bytes = (place == semicolon) ≡ true → bytes ≡ 59 ∷ []
Tells Gap bytes = ⊤
Tells Bad bytes = ⊤
