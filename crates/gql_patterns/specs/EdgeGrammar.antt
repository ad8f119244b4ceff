-- Fillers of patterns by their meaning, and edge patterns.
--
--   EdgePattern = the full forms "<-[f]-" "~[f]~" "-[f]->" "<~[f]~" "~[f]~>" "<-[f]->" "-[f]-", f being a filler, and
--                 the short forms  "<-"     "~"     "->"     "<~"     "~>"     "<->"     "-", which have an empty one
use Rattle.std.specs.Prelude.{◌≡◌, ◌⊎◌, List, None}
use Rattle.gql_lexer.specs.declared.lexeme.Lexeme.{Lexeme}
use Rattle.gql_lexer.specs.SymbolPlaces.{opening_bracket, closing_bracket}
use Rattle.gql_ast.specs.Filler.{FillerTree}
use Rattle.gql_ast.specs.PatternMeaning.{filler_of}
use Rattle.gql_ast.specs.declared.pattern.Direction.{Direction}
use Rattle.gql_front.specs.Reading.{is_sign}
use Rattle.gql_parts.specs.Parts.{Passes}
use Rattle.gql_parts.specs.FillerGrammar.{IsFiller}
use Rattle.gql_patterns.specs.PatternWords.{symbol_before, symbol_behind, short_symbol}

-- what P derives, by its meaning
abbrev pub Means : {A B : Type 0} → (A → B) → (A → List Lexeme → List Lexeme → Type 0) → B → List Lexeme → List Lexeme → Type 0
Means {A} view P y ts r = (x : A) × (view x ≡ y) × P x ts r

-- a filler
abbrev pub IsFilling : FillerTree → List Lexeme → List Lexeme → Type 0
IsFilling = Means filler_of IsFiller

-- the filler of a short form
abbrev pub empty_filler : FillerTree
empty_filler = record { variable = None; labels = None; condition = None }

-- the full form: a filler in brackets, between the two symbols of its direction
abbrev pub IsFullEdge : Direction → FillerTree → List Lexeme → List Lexeme → Type 0
IsFullEdge d f ts r =
    (a : List Lexeme) × Passes (is_sign (symbol_before d)) ts a × (b : List Lexeme) × Passes (is_sign opening_bracket) a b
    × (c : List Lexeme) × IsFilling f b c × (e : List Lexeme) × Passes (is_sign closing_bracket) c e × Passes (is_sign (symbol_behind d)) e r

-- the short form: the one symbol of its direction, and an empty filler
abbrev pub IsShortEdge : Direction → FillerTree → List Lexeme → List Lexeme → Type 0
IsShortEdge d f ts r = (f ≡ empty_filler) × Passes (is_sign (short_symbol d)) ts r

-- an edge pattern of a direction, in its full or its short form
abbrev pub IsEdge : Direction → FillerTree → List Lexeme → List Lexeme → Type 0
IsEdge d f ts r = IsFullEdge d f ts r ⊎ IsShortEdge d f ts r
