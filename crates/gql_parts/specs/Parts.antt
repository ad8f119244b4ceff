-- Parts: what productions are made of. P x ts r says that ts is a front that derives x, and then r.
use Rattle.std.specs.Prelude.{◌≡◌, ◌⊎◌, Bool, IsTrue, List, [], ◌∷◌, Option, Some, None}
use Rattle.gql_lexer.specs.declared.lexeme.Lexeme.{Lexeme}
use Rattle.gql_lexer.specs.SymbolPlaces.{comma}
use Rattle.gql_front.specs.Reading.{is_sign}

-- a lexeme that passes the test, and then r
abbrev pub Passes : (Lexeme → Bool) → List Lexeme → List Lexeme → Type 0
Passes test ts r = (t : Lexeme) × IsTrue (test t) × (ts ≡ t ∷ r)

-- the same where the lexeme may be missing
abbrev pub MayPass : (Lexeme → Bool) → List Lexeme → List Lexeme → Type 0
MayPass test ts r = (ts ≡ r) ⊎ Passes test ts r

-- [P]
abbrev pub IsOptional : {A : Type 0} → (A → List Lexeme → List Lexeme → Type 0) → Option A → List Lexeme → List Lexeme → Type 0
IsOptional P None ts r = ts ≡ r
IsOptional P (Some x) ts r = P x ts r

-- {"," P}*
abbrev pub AreOthers : {A : Type 0} → (A → List Lexeme → List Lexeme → Type 0) → List A → List Lexeme → List Lexeme → Type 0
AreOthers P [] ts r = ts ≡ r
AreOthers P (x ∷ xs) ts r = (a : List Lexeme) × Passes (is_sign comma) ts a × (m : List Lexeme) × P x a m × AreOthers P xs m r

-- P {"," P}*
abbrev pub IsListOf : {A : Type 0} → (A → List Lexeme → List Lexeme → Type 0) → List A → List Lexeme → List Lexeme → Type 0
IsListOf P [] ts r = ⊥
IsListOf P (x ∷ xs) ts r = (m : List Lexeme) × P x ts m × AreOthers P xs m r

-- [P {"," P}*]
abbrev pub MayList : {A : Type 0} → (A → List Lexeme → List Lexeme → Type 0) → List A → List Lexeme → List Lexeme → Type 0
MayList P [] ts r = ts ≡ r
MayList P (x ∷ xs) ts r = IsListOf P (x ∷ xs) ts r
