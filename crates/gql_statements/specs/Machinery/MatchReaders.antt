-- MatchReaders: reading MATCH and OPTIONAL MATCH.
use Rattle.std.specs.Prelude.{Bool, true, Some}
use Rattle.gql_ast.specs.declared.clause.Match.{Match}
use Rattle.gql_lexer.specs.WordPlaces.{MATCH}
use Rattle.gql_front.specs.Reading.{◌>>=◌, Reader, is_word, after}
use Rattle.gql_patterns.specs.Machinery.PatternReaders.{graph_pattern_of}

-- behind MATCH
unfoldable pub match_of : Bool → Reader Match
match_of optional ts = do
  g ← graph_pattern_of ts
  Some (record { optional = optional; pattern = g.0 }, g.1)

-- behind OPTIONAL
abbrev pub optional_match_of : Reader Match
optional_match_of ts = do
  a ← after (is_word MATCH) ts
  match_of true a
