-- Quantifiers: how often a part of a pattern stands.
--
--   Quantifier = "*"; "+"; "{" Number "}"; "{" [Number] "," [Number] "}"
use Rattle.std.specs.Prelude.{List}
use Rattle.gql_lexer.specs.declared.lexeme.Lexeme.{Lexeme}
use Rattle.gql_lexer.specs.SymbolPlaces.{star, plus, opening_brace, closing_brace, comma}
use Rattle.gql_ast.specs.declared.pattern.Quantifier.{Quantifier}
use Rattle.gql_ast.specs.declared.pattern.Quantifier.TheVariants as quantifier
use Rattle.gql_front.specs.Tables.{Begins}
use Rattle.gql_front.specs.Reading.{is_sign}
use Rattle.gql_parts.specs.Parts.{Passes, IsOptional}
use Rattle.gql_patterns.specs.PatternWords.{number_in}

-- what stands between the braces and the closing one
abbrev pub AreBounds : Quantifier → List Lexeme → List Lexeme → Type 0
AreBounds quantifier.Star ts r = ⊥
AreBounds quantifier.Plus ts r = ⊥
AreBounds (quantifier.Exactly n) ts r = (a : List Lexeme) × Begins number_in n ts a × Passes (is_sign closing_brace) a r
AreBounds (quantifier.Between m n) ts r =
    (a : List Lexeme) × IsOptional (Begins number_in) m ts a × (b : List Lexeme) × Passes (is_sign comma) a b
    × (c : List Lexeme) × IsOptional (Begins number_in) n b c × Passes (is_sign closing_brace) c r

-- behind an opening brace
abbrev pub IsBraced : Quantifier → List Lexeme → List Lexeme → Type 0
IsBraced q ts r = (a : List Lexeme) × Passes (is_sign opening_brace) ts a × AreBounds q a r

-- "*", "+", a number in braces, or two bounds in braces with a comma between them, each of which may be missing
abbrev pub IsQuantifier : Quantifier → List Lexeme → List Lexeme → Type 0
IsQuantifier quantifier.Star ts r = Passes (is_sign star) ts r
IsQuantifier quantifier.Plus ts r = Passes (is_sign plus) ts r
IsQuantifier (quantifier.Exactly n) ts r = IsBraced (quantifier.Exactly n) ts r
IsQuantifier (quantifier.Between m n) ts r = IsBraced (quantifier.Between m n) ts r
