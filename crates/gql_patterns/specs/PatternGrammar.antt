-- Graph patterns: path patterns with names and prefixes, and what must hold of them together.
--
--   GraphPattern = PathPattern {"," PathPattern}* [WHERE Expr]
--   PathPattern  = [Name "="] [Prefix] PathExpr
use Rattle.std.specs.Prelude.{◌≡◌, ℕ, false, List, []}
use Rattle.gql_lexer.specs.declared.lexeme.Lexeme.{Lexeme}
use Rattle.gql_lexer.specs.SymbolPlaces.{equal}
use Rattle.gql_ast.specs.PatternMeaning.{pattern_of}
use Rattle.gql_ast.specs.declared.pattern.PathExpr.{PathExpr}
use Rattle.gql_ast.specs.declared.path.PathPattern.{PathPattern}
use Rattle.gql_ast.specs.declared.path.GraphPattern.{GraphPattern}
use Rattle.gql_front.specs.Tables.{Begins}
use Rattle.gql_front.specs.Reading.{is_sign, name_in}
use Rattle.gql_parts.specs.Parts.{Passes, IsOptional, IsListOf}
use Rattle.gql_parts.specs.FillerGrammar.{IsWhere}
use Rattle.gql_patterns.specs.PrefixGrammar.{IsPrefix}
use Rattle.gql_patterns.specs.PathGrammar.{IsPath}

-- Name "="
abbrev pub IsPathName : List ℕ → List Lexeme → List Lexeme → Type 0
IsPathName x ts r = (a : List Lexeme) × Begins name_in x ts a × Passes (is_sign equal) a r

-- a path pattern expression, by its meaning
abbrev pub IsPathExpr : PathExpr → List Lexeme → List Lexeme → Type 0
IsPathExpr e ts r = IsPath (pattern_of e) ts r

-- a path pattern expression, behind a name and "=" and behind a prefix, each of which may be missing
abbrev pub IsPathPattern : PathPattern → List Lexeme → List Lexeme → Type 0
IsPathPattern p ts r =
    (a : List Lexeme) × IsOptional IsPathName p.name ts a × (b : List Lexeme) × IsOptional IsPrefix p.prefix a b × IsPathExpr p.expr b r

-- the lexemes ts begin with some that derive the graph pattern, and behind those stands r; none says DIFFERENT EDGES yet
abbrev pub IsGraphPattern : GraphPattern → List Lexeme → List Lexeme → Type 0
IsGraphPattern g ts r =
    (g.different ≡ false) × (a : List Lexeme) × IsListOf IsPathPattern g.paths ts a × IsOptional IsWhere g.condition a r

-- the lexemes as a whole derive the graph pattern
abbrev pub Derives : List Lexeme → GraphPattern → Type 0
Derives ts g = IsGraphPattern g ts []
