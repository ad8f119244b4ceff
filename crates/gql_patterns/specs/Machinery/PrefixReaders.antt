-- PrefixReaders: reading modes and prefixes.
use Rattle.std.specs.Prelude.{ℕ, List, Option, Some, None}
use Rattle.gql_lexer.specs.declared.lexeme.Lexeme.{Lexeme}
use Rattle.gql_lexer.specs.WordPlaces.{SHORTEST}
use Rattle.gql_ast.specs.declared.mode.Mode.{Mode}
use Rattle.gql_ast.specs.declared.path.Prefix.{Prefix}
use Rattle.gql_ast.specs.declared.path.Prefix.TheVariants as prefix
use Rattle.gql_front.specs.Reading.{◌>>=◌, Reader, is_word, after, op_at, opted}
use Rattle.gql_parts.specs.Machinery.PartReaders.{past}
use Rattle.gql_patterns.specs.PatternWords.{mode_word, is_path_word, is_group_word, prefix_word}
use Rattle.gql_patterns.specs.Machinery.QuantifierReaders.{number_of}
use Rattle.gql_patterns.specs.declared.prefix_word.PrefixWord.{PrefixWord}
use Rattle.gql_patterns.specs.declared.prefix_word.PrefixWord.TheVariants as says

-- [P]
abbrev pub past_path_word : List Lexeme → List Lexeme
past_path_word ts = past is_path_word ts

-- Mode [P]
unfoldable pub mode_of : Reader Mode
mode_of ts = do
  m ← op_at mode_word ts
  Some (m.0, past_path_word m.1)

-- [Mode [P]]
unfoldable pub part_mode_of : List Lexeme → Option Mode × List Lexeme
part_mode_of ts = opted ts (mode_of ts)

-- [Mode] [P]
abbrev pub without_path_word : Option Mode × List Lexeme → Option Mode × List Lexeme
without_path_word m = (m.0, past_path_word m.1)

unfoldable pub mode_behind : List Lexeme → Option Mode × List Lexeme
mode_behind ts = without_path_word (opted ts (op_at mode_word ts))

-- a prefix that ends in a mode
abbrev pub with_mode : (Option Mode → Prefix) → List Lexeme → Prefix × List Lexeme
with_mode make ts = (make (mode_behind ts).0, (mode_behind ts).1)

-- behind ALL
abbrev pub all_or_shortest : List Lexeme → Option (List Lexeme) → Prefix × List Lexeme
all_or_shortest ts None = with_mode prefix.All ts
all_or_shortest ts (Some a) = with_mode prefix.AllShortest a

abbrev pub all_of : List Lexeme → Prefix × List Lexeme
all_of ts = all_or_shortest ts (after (is_word SHORTEST) ts)

-- behind ANY
abbrev pub any_or_shortest : List Lexeme → Option (List Lexeme) → Option (Prefix × List Lexeme)
any_or_shortest ts None = do
  n ← number_of ts
  Some (with_mode (prefix.Any n.0) n.1)
any_or_shortest ts (Some a) = Some (with_mode prefix.AnyShortest a)

abbrev pub any_of : Reader Prefix
any_of ts = any_or_shortest ts (after (is_word SHORTEST) ts)

-- behind the number and the mode of SHORTEST
abbrev pub shortest_or_groups : Option (List ℕ) → Option Mode → List Lexeme → Option (List Lexeme) → Option (Prefix × List Lexeme)
shortest_or_groups n m ts (Some r) = Some (prefix.ShortestGroups n m, r)
shortest_or_groups (Some n) m ts None = Some (prefix.Shortest n m, ts)
shortest_or_groups None m ts None = None

-- behind SHORTEST
unfoldable pub shortest_of : Reader Prefix
shortest_of ts = do
  n ← number_of ts
  shortest_or_groups n.0 (mode_behind n.1).0 (mode_behind n.1).1 (after is_group_word (mode_behind n.1).1)

-- behind the first word
abbrev pub prefix_behind : PrefixWord → Reader Prefix
prefix_behind (says.Mode m) ts = Some (prefix.Mode m, past_path_word ts)
prefix_behind says.All ts = Some (all_of ts)
prefix_behind says.Any ts = any_of ts
prefix_behind says.Shortest ts = shortest_of ts

unfoldable pub prefix_of : Reader Prefix
prefix_of ts = do
  w ← op_at prefix_word ts
  prefix_behind w.0 w.1
