-- The labels that an element of a graph type, or one that is to be inserted, may bear.
--
--   BearsLabels = (":" or IS) Labels
--   Labels      = Any {"&" Any}*, where Any is a name or a reserved word
use Rattle.std.specs.Prelude.{◌≡◌, ℕ, List, [], ◌∷◌}
use Rattle.gql_lexer.specs.declared.lexeme.Lexeme.{Lexeme}
use Rattle.gql_lexer.specs.SymbolPlaces.{ampersand}
use Rattle.gql_front.specs.Tables.{Begins}
use Rattle.gql_front.specs.Reading.{is_sign, any_name_in}
use Rattle.gql_parts.specs.Parts.{Passes}
use Rattle.gql_parts.specs.PartWords.{is_colon}

-- {"&" Any}*
abbrev pub AreMoreLabels : List (List ℕ) → List Lexeme → List Lexeme → Type 0
AreMoreLabels [] ts r = ts ≡ r
AreMoreLabels (l ∷ ls) ts r =
    (a : List Lexeme) × Passes (is_sign ampersand) ts a × (b : List Lexeme) × Begins any_name_in l a b × AreMoreLabels ls b r

-- Any {"&" Any}*
abbrev pub AreLabels : List (List ℕ) → List Lexeme → List Lexeme → Type 0
AreLabels [] ts r = ⊥
AreLabels (l ∷ ls) ts r = (a : List Lexeme) × Begins any_name_in l ts a × AreMoreLabels ls a r

-- (":" or IS) Labels
abbrev pub BearsLabels : List (List ℕ) → List Lexeme → List Lexeme → Type 0
BearsLabels ls ts r = (a : List Lexeme) × Passes is_colon ts a × AreLabels ls a r
