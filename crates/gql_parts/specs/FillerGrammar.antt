-- What stands between the brackets of an element, and WHERE.
--
--   Where  = WHERE Expr
--   Filler = [Name] [(":" or IS) LabelExpr] [Map; Where]
--   Map    = "{" [list(a name or a reserved word ":" Expr)] "}"
use Rattle.std.specs.Prelude.{List}
use Rattle.gql_lexer.specs.declared.lexeme.Lexeme.{Lexeme}
use Rattle.gql_ast.specs.declared.expr.Expr.{Expr}
use Rattle.gql_ast.specs.declared.label.LabelExpr.{LabelExpr}
use Rattle.gql_ast.specs.declared.filler.Condition.{Condition}
use Rattle.gql_ast.specs.declared.filler.Condition.TheVariants as condition
use Rattle.gql_ast.specs.declared.filler.Filler.{Filler}
use Rattle.gql_ast.specs.declared.filler.MapItem.{MapItem}
use Rattle.gql_lexer.specs.SymbolPlaces.{opening_brace, closing_brace, colon}
use Rattle.gql_lexer.specs.WordPlaces.{WHERE}
use Rattle.gql_front.specs.Tables.{Begins}
use Rattle.gql_front.specs.Reading.{is_sign, is_word, name_in, any_name_in}
use Rattle.gql_parts.specs.Parts.{Passes, IsOptional, MayList}
use Rattle.gql_parts.specs.Values.{IsValue, IsNamedValue, IsLabels}
use Rattle.gql_parts.specs.PartWords.{is_colon}

-- WHERE Expr
abbrev pub IsWhere : Expr → List Lexeme → List Lexeme → Type 0
IsWhere e ts r = (a : List Lexeme) × Passes (is_word WHERE) ts a × IsValue e a r

-- a name or a reserved word, ":", and the expression whose value it gets
abbrev pub IsMapItem : MapItem → List Lexeme → List Lexeme → Type 0
IsMapItem i ts r = IsNamedValue any_name_in colon i.name i.value ts r

-- [list(Any ":" Expr)]
abbrev pub AreMapItems : List MapItem → List Lexeme → List Lexeme → Type 0
AreMapItems = MayList IsMapItem

-- "{" and "}", and between them any number of map items, with commas between those
abbrev pub IsMap : List MapItem → List Lexeme → List Lexeme → Type 0
IsMap is ts r =
    (a : List Lexeme) × Passes (is_sign opening_brace) ts a × (b : List Lexeme) × AreMapItems is a b × Passes (is_sign closing_brace) b r

-- the last part of a filler: a map, or WHERE and a predicate
abbrev pub IsCondition : Condition → List Lexeme → List Lexeme → Type 0
IsCondition (condition.Map is) ts r = IsMap is ts r
IsCondition (condition.Where e) ts r = IsWhere e ts r

-- (":" or IS) LabelExpr
abbrev pub AsksLabels : LabelExpr → List Lexeme → List Lexeme → Type 0
AsksLabels l ts r = (a : List Lexeme) × Passes is_colon ts a × IsLabels l a r

-- what stands between the brackets of an element pattern: a variable, a label expression, and a map or WHERE, in this order, each of which may be missing
abbrev pub IsFiller : Filler → List Lexeme → List Lexeme → Type 0
IsFiller f ts r =
    (a : List Lexeme) × IsOptional (Begins name_in) f.variable ts a × (b : List Lexeme) × IsOptional AsksLabels f.labels a b
    × IsOptional IsCondition f.condition b r
