-- Statements about the graphs and graph types.
--
--   Catalog = CREATE Graph [IF NOT EXISTS] Name Kind; DROP Graph [IF EXISTS] Name;
--             CREATE Graph TYPE [IF NOT EXISTS] Name [AS] TypeBody; DROP Graph TYPE [IF EXISTS] Name
--   Kind    = [TYPED or "::"] ANY [Graph]; (TYPED or "::") Name
use Rattle.std.specs.Prelude.{◌≡◌, ℕ, Bool, true, false, List}
use Rattle.gql_lexer.specs.declared.lexeme.Lexeme.{Lexeme}
use Rattle.gql_ast.specs.declared.statement.CatalogStatement.{CatalogStatement}
use Rattle.gql_ast.specs.declared.statement.CatalogStatement.TheVariants as catalog
use Rattle.gql_ast.specs.declared.statement.GraphKind.{GraphKind}
use Rattle.gql_ast.specs.declared.statement.GraphKind.TheVariants as kind
use Rattle.gql_lexer.specs.WordPlaces.{ANY, AS, CREATE, DROP, EXISTS, IF, NOT, TYPE}
use Rattle.gql_front.specs.Tables.{Begins}
use Rattle.gql_front.specs.Reading.{is_word, name_in}
use Rattle.gql_parts.specs.Parts.{Passes, MayPass}
use Rattle.gql_type.specs.TypeWords.{is_typed}
use Rattle.gql_type.specs.TypeGrammar.{IsTypeBody}
use Rattle.gql_statements.specs.GraphGrammar.{SaysGraph, MaySayGraph}

-- IF NOT EXISTS; no word
abbrev pub SaysIfNotExists : Bool → List Lexeme → List Lexeme → Type 0
SaysIfNotExists true ts r =
    (a : List Lexeme) × Passes (is_word IF) ts a × (b : List Lexeme) × Passes (is_word NOT) a b × Passes (is_word EXISTS) b r
SaysIfNotExists false ts r = ts ≡ r

-- IF EXISTS; no word
abbrev pub SaysIfExists : Bool → List Lexeme → List Lexeme → Type 0
SaysIfExists true ts r = (a : List Lexeme) × Passes (is_word IF) ts a × Passes (is_word EXISTS) a r
SaysIfExists false ts r = ts ≡ r

-- [IF NOT EXISTS] Name
abbrev pub NamesCreated : Bool → List ℕ → List Lexeme → List Lexeme → Type 0
NamesCreated lenient x ts r = (a : List Lexeme) × SaysIfNotExists lenient ts a × Begins name_in x a r

-- [IF EXISTS] Name
abbrev pub NamesDropped : Bool → List ℕ → List Lexeme → List Lexeme → Type 0
NamesDropped lenient x ts r = (a : List Lexeme) × SaysIfExists lenient ts a × Begins name_in x a r

-- what a graph may hold: ANY, with TYPED or "::" before it and GRAPH behind it where they are said; or TYPED or "::", and the name of a graph type
abbrev pub IsGraphKind : GraphKind → List Lexeme → List Lexeme → Type 0
IsGraphKind kind.Any ts r =
    (a : List Lexeme) × MayPass is_typed ts a × (b : List Lexeme) × Passes (is_word ANY) a b × MaySayGraph b r
IsGraphKind (kind.Typed x) ts r = (a : List Lexeme) × Passes is_typed ts a × Begins name_in x a r

-- CREATE GRAPH, a name and what the graph may hold; DROP GRAPH and a name; CREATE GRAPH TYPE, a name and the body of a type;
-- DROP GRAPH TYPE and a name. IF NOT EXISTS may stand before a name that is created, IF EXISTS before one that is dropped.
abbrev pub IsCatalog : CatalogStatement → List Lexeme → List Lexeme → Type 0
IsCatalog (catalog.CreateGraph lenient x k) ts r =
    (a : List Lexeme) × Passes (is_word CREATE) ts a × (b : List Lexeme) × SaysGraph a b × (c : List Lexeme) × NamesCreated lenient x b c
    × IsGraphKind k c r
IsCatalog (catalog.DropGraph lenient x) ts r =
    (a : List Lexeme) × Passes (is_word DROP) ts a × (b : List Lexeme) × SaysGraph a b × NamesDropped lenient x b r
IsCatalog (catalog.CreateType lenient x body) ts r =
    (a : List Lexeme) × Passes (is_word CREATE) ts a × (b : List Lexeme) × SaysGraph a b × (c : List Lexeme) × Passes (is_word TYPE) b c
    × (d : List Lexeme) × NamesCreated lenient x c d × (e : List Lexeme) × MayPass (is_word AS) d e × IsTypeBody body e r
IsCatalog (catalog.DropType lenient x) ts r =
    (a : List Lexeme) × Passes (is_word DROP) ts a × (b : List Lexeme) × SaysGraph a b × (c : List Lexeme) × Passes (is_word TYPE) b c
    × NamesDropped lenient x c r
