-- Prefixes of path patterns: modes, and selectors of paths.
--
--   Mode   = WALK; TRAIL; ACYCLIC; SIMPLE
--   P      = PATH or PATHS, which say nothing
--   Prefix = Mode [P]; ALL [Mode] [P]; ANY [Number] [Mode] [P]; (ALL or ANY) SHORTEST [Mode] [P];
--            SHORTEST Number [Mode] [P]; SHORTEST [Number] [Mode] [P] (GROUP or GROUPS)
use Rattle.std.specs.Prelude.{List, Option}
use Rattle.gql_lexer.specs.declared.lexeme.Lexeme.{Lexeme}
use Rattle.gql_lexer.specs.WordPlaces.{SHORTEST}
use Rattle.gql_ast.specs.declared.mode.Mode.{Mode}
use Rattle.gql_ast.specs.declared.path.Prefix.{Prefix}
use Rattle.gql_ast.specs.declared.path.Prefix.TheVariants as prefix
use Rattle.gql_front.specs.Tables.{Begins}
use Rattle.gql_front.specs.Reading.{is_word}
use Rattle.gql_parts.specs.Parts.{Passes, MayPass, IsOptional}
use Rattle.gql_patterns.specs.PatternWords.{number_in, mode_word, is_path_word, is_group_word, prefix_word}
use Rattle.gql_patterns.specs.declared.prefix_word.PrefixWord.TheVariants as says

-- Mode [P]
abbrev pub IsMode : Mode → List Lexeme → List Lexeme → Type 0
IsMode m ts r = (a : List Lexeme) × Begins mode_word m ts a × MayPass is_path_word a r

-- [Mode] [P]
abbrev pub MayHaveMode : Option Mode → List Lexeme → List Lexeme → Type 0
MayHaveMode m ts r = (a : List Lexeme) × IsOptional (Begins mode_word) m ts a × MayPass is_path_word a r

-- behind the first word
abbrev pub IsPrefix : Prefix → List Lexeme → List Lexeme → Type 0
IsPrefix (prefix.Mode m) ts r = (a : List Lexeme) × Begins prefix_word (says.Mode m) ts a × MayPass is_path_word a r
IsPrefix (prefix.All m) ts r = (a : List Lexeme) × Begins prefix_word says.All ts a × MayHaveMode m a r
IsPrefix (prefix.Any n m) ts r =
    (a : List Lexeme) × Begins prefix_word says.Any ts a × (b : List Lexeme) × IsOptional (Begins number_in) n a b × MayHaveMode m b r
IsPrefix (prefix.AllShortest m) ts r =
    (a : List Lexeme) × Begins prefix_word says.All ts a × (b : List Lexeme) × Passes (is_word SHORTEST) a b × MayHaveMode m b r
IsPrefix (prefix.AnyShortest m) ts r =
    (a : List Lexeme) × Begins prefix_word says.Any ts a × (b : List Lexeme) × Passes (is_word SHORTEST) a b × MayHaveMode m b r
IsPrefix (prefix.Shortest n m) ts r =
    (a : List Lexeme) × Begins prefix_word says.Shortest ts a × (b : List Lexeme) × Begins number_in n a b × MayHaveMode m b r
IsPrefix (prefix.ShortestGroups n m) ts r =
    (a : List Lexeme) × Begins prefix_word says.Shortest ts a × (b : List Lexeme) × IsOptional (Begins number_in) n a b
    × (c : List Lexeme) × MayHaveMode m b c × Passes is_group_word c r
