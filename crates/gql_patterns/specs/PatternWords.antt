-- PatternWords: what the words, symbols and numbers of patterns say.
use Rattle.std.specs.Prelude.{Bool, ◌||◌, ℕ, List, [], ◌∷◌, Option, Some, None}
use Rattle.gql_lexer.specs.declared.lexeme.Lexeme.{Lexeme}
use Rattle.gql_lexer.specs.declared.lexeme.Lexeme.TheVariants as lex
use Rattle.gql_lexer.specs.SymbolPlaces as symbol
use Rattle.gql_lexer.specs.WordPlaces as word
use Rattle.gql_ast.specs.declared.mode.Mode.{Mode}
use Rattle.gql_ast.specs.declared.mode.Mode.TheVariants as mode
use Rattle.gql_ast.specs.declared.pattern.Direction.{Direction}
use Rattle.gql_ast.specs.declared.pattern.Direction.TheVariants as direction
use Rattle.gql_front.specs.Tables.{word_in}
use Rattle.gql_front.specs.Reading.{is_word}
use Rattle.gql_patterns.specs.declared.prefix_word.PrefixWord.{PrefixWord}
use Rattle.gql_patterns.specs.declared.prefix_word.PrefixWord.TheVariants as says

-- a number, by its digits
abbrev pub number_in : Lexeme → Option (List ℕ)
number_in (lex.Number digits) = Some digits
number_in _ = None

-- the path modes; 'restrictors' where the standard's authors write of patterns
abbrev pub mode_words : List (ℕ × Mode)
mode_words = (word.WALK, mode.Walk) ∷ (word.TRAIL, mode.Trail) ∷ (word.ACYCLIC, mode.Acyclic) ∷ (word.SIMPLE, mode.Simple) ∷ []

-- the path mode that the lexeme says
abbrev pub mode_word : Lexeme → Option Mode
mode_word t = word_in mode_words t

-- PATH or PATHS, which say nothing
abbrev pub is_path_word : Lexeme → Bool
is_path_word t = is_word word.PATH t || is_word word.PATHS t

-- GROUP or GROUPS, which say the same
abbrev pub is_group_word : Lexeme → Bool
is_group_word t = is_word word.GROUP t || is_word word.GROUPS t

-- the words that begin a prefix
abbrev pub prefix_words : List (ℕ × PrefixWord)
prefix_words =
    (word.ALL, says.All) ∷ (word.ANY, says.Any) ∷ (word.SHORTEST, says.Shortest) ∷ (word.WALK, says.Mode mode.Walk)
    ∷ (word.TRAIL, says.Mode mode.Trail) ∷ (word.ACYCLIC, says.Mode mode.Acyclic) ∷ (word.SIMPLE, says.Mode mode.Simple) ∷ []

-- what the lexeme says as the first word of a prefix
abbrev pub prefix_word : Lexeme → Option PrefixWord
prefix_word t = word_in prefix_words t

-- the symbol of an edge before its opening bracket
abbrev pub symbol_before : Direction → ℕ
symbol_before direction.Left = symbol.left_arrow
symbol_before direction.Undirected = symbol.tilde
symbol_before direction.Right = symbol.minus
symbol_before direction.LeftOrUndirected = symbol.left_tilde
symbol_before direction.UndirectedOrRight = symbol.tilde
symbol_before direction.LeftOrRight = symbol.left_arrow
symbol_before direction.Any = symbol.minus

-- the symbol of an edge behind its closing bracket
abbrev pub symbol_behind : Direction → ℕ
symbol_behind direction.Left = symbol.minus
symbol_behind direction.Undirected = symbol.tilde
symbol_behind direction.Right = symbol.right_arrow
symbol_behind direction.LeftOrUndirected = symbol.tilde
symbol_behind direction.UndirectedOrRight = symbol.right_tilde
symbol_behind direction.LeftOrRight = symbol.right_arrow
symbol_behind direction.Any = symbol.minus

-- the one symbol of an edge that has no brackets
abbrev pub short_symbol : Direction → ℕ
short_symbol direction.Left = symbol.left_arrow
short_symbol direction.Undirected = symbol.tilde
short_symbol direction.Right = symbol.right_arrow
short_symbol direction.LeftOrUndirected = symbol.left_tilde
short_symbol direction.UndirectedOrRight = symbol.right_tilde
short_symbol direction.LeftOrRight = symbol.left_right_arrow
short_symbol direction.Any = symbol.minus
