-- ORDER BY, OFFSET and LIMIT.
--
--   Page  = Order [Skip] [Limit]; Skip [Limit]; Limit
--   Order = ORDER BY list(Expr [ASC, ASCENDING, DESC or DESCENDING] [NULLS FIRST or NULLS LAST])
--   Skip  = (OFFSET or SKIP) (a number or a parameter)
--   Limit = LIMIT (a number or a parameter)
use Rattle.std.specs.Prelude.{◌≡◌, ◌⊎◌, List}
use Rattle.gql_lexer.specs.declared.lexeme.Lexeme.{Lexeme}
use Rattle.gql_ast.specs.declared.page.SortDirection.{SortDirection}
use Rattle.gql_ast.specs.declared.page.SortDirection.TheVariants as direction
use Rattle.gql_ast.specs.declared.page.NullOrder.{NullOrder}
use Rattle.gql_ast.specs.declared.page.SortItem.{SortItem}
use Rattle.gql_ast.specs.declared.page.RowCount.{RowCount}
use Rattle.gql_ast.specs.declared.page.Page.{Page}
use Rattle.gql_ast.specs.declared.page.Page.TheVariants as page
use Rattle.gql_lexer.specs.WordPlaces.{BY, LIMIT, NULLS, ORDER}
use Rattle.gql_front.specs.Tables.{Begins}
use Rattle.gql_front.specs.Reading.{is_word}
use Rattle.gql_parts.specs.Parts.{Passes, IsOptional, IsListOf}
use Rattle.gql_parts.specs.Values.{IsValue}
use Rattle.gql_statements.specs.PartWords.{direction_word, null_word, count_in, is_skip}

-- no word says the same as ASC
abbrev pub IsDirection : SortDirection → List Lexeme → List Lexeme → Type 0
IsDirection direction.Ascending ts r = (ts ≡ r) ⊎ Begins direction_word direction.Ascending ts r
IsDirection direction.Descending ts r = Begins direction_word direction.Descending ts r

-- NULLS FIRST or NULLS LAST
abbrev pub IsNullOrder : NullOrder → List Lexeme → List Lexeme → Type 0
IsNullOrder n ts r = (a : List Lexeme) × Passes (is_word NULLS) ts a × Begins null_word n a r

-- a sort key: an expression, its direction, and whether nulls stand first or last where it is said
abbrev pub IsSortItem : SortItem → List Lexeme → List Lexeme → Type 0
IsSortItem i ts r =
    (a : List Lexeme) × IsValue i.key ts a × (b : List Lexeme) × IsDirection i.direction a b × IsOptional IsNullOrder i.nulls b r

-- ORDER BY and its sort keys, with commas between them
abbrev pub IsOrder : List SortItem → List Lexeme → List Lexeme → Type 0
IsOrder is ts r = (a : List Lexeme) × Passes (is_word ORDER) ts a × (b : List Lexeme) × Passes (is_word BY) a b × IsListOf IsSortItem is b r

-- OFFSET or SKIP, and the number of rows to be left out: a number or a parameter
abbrev pub IsSkip : RowCount → List Lexeme → List Lexeme → Type 0
IsSkip c ts r = (a : List Lexeme) × Passes is_skip ts a × Begins count_in c a r

-- LIMIT, and the number of rows to be kept at most: a number or a parameter
abbrev pub IsLimit : RowCount → List Lexeme → List Lexeme → Type 0
IsLimit c ts r = (a : List Lexeme) × Passes (is_word LIMIT) ts a × Begins count_in c a r

-- one or more of ORDER BY, OFFSET and LIMIT, in this order
abbrev pub IsPage : Page → List Lexeme → List Lexeme → Type 0
IsPage (page.Order is s l) ts r = (a : List Lexeme) × IsOrder is ts a × (b : List Lexeme) × IsOptional IsSkip s a b × IsOptional IsLimit l b r
IsPage (page.Skip c l) ts r = (a : List Lexeme) × IsSkip c ts a × IsOptional IsLimit l a r
IsPage (page.Limit c) ts r = IsLimit c ts r
