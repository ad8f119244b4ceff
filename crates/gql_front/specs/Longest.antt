-- Longest: the longest front of the lexemes that derives something.
use Rattle.std.specs.Prelude.{◌≡◌, ℕ, ◌-◌, ◌<◌, ◌≤◌, ◌⊎◌, List, [], length, take, drop, Option, Some, None}
use Rattle.gql_lexer.specs.declared.lexeme.Lexeme.{Lexeme}

-- P x ts r: ts is a front that derives x, and then r. The longest such front, and its one tree; or none derives anything.
abbrev pub Longest : {A : Type 0} → (A → List Lexeme → List Lexeme → Type 0) → List Lexeme → Option (A × List Lexeme) → Type 0
Longest {A} P ts (Some (x, r)) = P x ts r × ((y : A) (s : List Lexeme) → P y ts s → ((y ≡ x) × (s ≡ r)) ⊎ (length r < length s))
Longest {A} P ts None = (y : A) (s : List Lexeme) → P y ts s → ⊥

-- the lexemes from at up to j are a front that derives x
abbrev pub IsFrontOf : {A : Type 0} → (A → List Lexeme → List Lexeme → Type 0) → List Lexeme → ℕ → ℕ → A → Type 0
IsFrontOf {A} P ts at j x = (at ≤ j) × (j ≤ length ts) × P x (take (j - at) (drop at ts)) []
