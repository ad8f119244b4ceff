-- RETURN.
--
--   Return = RETURN [DISTINCT or ALL] ("*"; list(Expr [AS Name])) [GROUP BY list(Name)] [Order] [Skip] [Limit]
use Rattle.std.specs.Prelude.{ℕ, List}
use Rattle.gql_lexer.specs.declared.lexeme.Lexeme.{Lexeme}
use Rattle.gql_ast.specs.declared.projection.Return.{Return}
use Rattle.gql_ast.specs.declared.projection.ReturnItem.{ReturnItem}
use Rattle.gql_ast.specs.declared.projection.ReturnItems.{ReturnItems}
use Rattle.gql_ast.specs.declared.projection.ReturnItems.TheVariants as items
use Rattle.gql_lexer.specs.SymbolPlaces.{star}
use Rattle.gql_lexer.specs.WordPlaces.{AS, BY, GROUP, RETURN}
use Rattle.gql_front.specs.Tables.{Begins}
use Rattle.gql_front.specs.Reading.{is_sign, is_word, name_in}
use Rattle.gql_exprs.specs.Grammar.{IsQuantifier}
use Rattle.gql_parts.specs.Parts.{Passes, IsOptional, IsListOf}
use Rattle.gql_parts.specs.Values.{IsValue}
use Rattle.gql_statements.specs.PageGrammar.{IsOrder, IsSkip, IsLimit}

-- AS Name
abbrev pub IsAlias : List ℕ → List Lexeme → List Lexeme → Type 0
IsAlias x ts r = (a : List Lexeme) × Passes (is_word AS) ts a × Begins name_in x a r

-- an expression, and AS with the name of its column, which may be missing
abbrev pub IsReturnItem : ReturnItem → List Lexeme → List Lexeme → Type 0
IsReturnItem i ts r = (a : List Lexeme) × IsValue i.value ts a × IsOptional IsAlias i.name a r

-- "*", which stands for all columns, or one or more items with commas between them
abbrev pub AreReturnItems : ReturnItems → List Lexeme → List Lexeme → Type 0
AreReturnItems items.All ts r = Passes (is_sign star) ts r
AreReturnItems (items.Listed is) ts r = IsListOf IsReturnItem is ts r

-- GROUP BY list(Name)
abbrev pub IsGrouping : List (List ℕ) → List Lexeme → List Lexeme → Type 0
IsGrouping xs ts r = (a : List Lexeme) × Passes (is_word GROUP) ts a × (b : List Lexeme) × Passes (is_word BY) a b × IsListOf (Begins name_in) xs b r

-- RETURN, DISTINCT or ALL, what is returned, GROUP BY, ORDER BY, OFFSET and LIMIT, in this order; all but RETURN and what is returned may be missing
abbrev pub IsReturn : Return → List Lexeme → List Lexeme → Type 0
IsReturn ret ts r =
    (a : List Lexeme) × Passes (is_word RETURN) ts a × (b : List Lexeme) × IsQuantifier ret.quantifier a b
    × (c : List Lexeme) × AreReturnItems ret.items b c × (d : List Lexeme) × IsOptional IsGrouping ret.grouping c d
    × (e : List Lexeme) × IsOptional IsOrder ret.order d e × (f : List Lexeme) × IsOptional IsSkip ret.skip e f × IsOptional IsLimit ret.limit f r
