-- Names: which texts are names that need no quotes, and the words that the language keeps for itself.
use Rattle.std.specs.Prelude.{ℕ, Bool, false, ◌&&◌, ◌||◌, ◌==◌, List, [], ◌∷◌, codes, Option, is_none}
use Rattle.std.specs.List.{list_all, position}
use Rattle.std.specs.Str.{chars, str_to_ascii_uppercase}
use Rattle.unicode_ident.specs.Ident.{is_xid_start, is_xid_continue}
use Rattle.gql_values3.specs.Texts.{same_text}

-- the reserved words; others speak of them by their places, which count from 0
unfoldable pub reserved_words : List (List ℕ)
reserved_words =
    codes "ABS" ∷ codes "ACYCLIC" ∷ codes "ALL" ∷ codes "AND" ∷ codes "ANY" ∷ codes "AS" ∷ codes "ASC" ∷ codes "ASCENDING" ∷
    codes "BOOL" ∷ codes "BOOLEAN" ∷ codes "BY" ∷ codes "CARDINALITY" ∷ codes "CHAR_LENGTH" ∷ codes "CLOSE" ∷ codes "COALESCE" ∷
    codes "COLLECT_LIST" ∷ codes "COLUMNS" ∷ codes "COMMIT" ∷ codes "COUNT" ∷ codes "CREATE" ∷ codes "DATE" ∷ codes "DELETE" ∷
    codes "DESC" ∷ codes "DESCENDING" ∷ codes "DESTINATION" ∷ codes "DETACH" ∷ codes "DIFFERENT" ∷ codes "DIRECTED" ∷
    codes "DISTINCT" ∷ codes "DROP" ∷ codes "EDGES" ∷ codes "ELEMENTS" ∷ codes "EXCEPT" ∷ codes "EXISTS" ∷ codes "FALSE" ∷
    codes "FILTER" ∷ codes "FIRST" ∷ codes "FOR" ∷ codes "FROM" ∷ codes "GRAPH" ∷ codes "GRAPH_TABLE" ∷ codes "GROUP" ∷
    codes "GROUPS" ∷ codes "IF" ∷ codes "IN" ∷ codes "INSERT" ∷ codes "INT" ∷ codes "INT64" ∷ codes "INTEGER" ∷
    codes "INTERSECT" ∷ codes "IS" ∷ codes "LABELED" ∷ codes "LAST" ∷ codes "LET" ∷ codes "LIMIT" ∷ codes "LIST" ∷ codes "MATCH" ∷
    codes "MAX" ∷ codes "MIN" ∷ codes "MOD" ∷ codes "NEXT" ∷ codes "NODETACH" ∷ codes "NOT" ∷ codes "NULL" ∷ codes "NULLS" ∷
    codes "OF" ∷ codes "OFFSET" ∷ codes "ONLY" ∷ codes "OPTIONAL" ∷ codes "OR" ∷ codes "ORDER" ∷ codes "ORDINALITY" ∷
    codes "OTHERWISE" ∷ codes "PATH" ∷ codes "PATHS" ∷ codes "PATH_LENGTH" ∷ codes "PROPERTY" ∷ codes "READ" ∷ codes "REMOVE" ∷
    codes "REPEATABLE" ∷ codes "RESET" ∷ codes "RETURN" ∷ codes "ROLLBACK" ∷ codes "SELECT" ∷ codes "SESSION" ∷ codes "SET" ∷
    codes "SHORTEST" ∷ codes "SIMPLE" ∷ codes "SKIP" ∷ codes "SOURCE" ∷ codes "START" ∷ codes "STRING" ∷ codes "SUM" ∷
    codes "TRAIL" ∷ codes "TRANSACTION" ∷ codes "TRUE" ∷ codes "TYPE" ∷ codes "TYPED" ∷ codes "UNION" ∷ codes "UNKNOWN" ∷
    codes "VALUE" ∷ codes "WALK" ∷ codes "WHERE" ∷ codes "WITH" ∷ codes "WRITE" ∷ codes "XOR" ∷ []

-- the text with its ASCII letters in upper case
abbrev pub ascii_upper : List ℕ → List ℕ
ascii_upper text = str_to_ascii_uppercase text

-- the place of the reserved word that the text is, in any case of its letters
abbrev pub reserved_place : List ℕ → Option ℕ
reserved_place text = position (same_text (ascii_upper text)) reserved_words

-- a character that may begin a name, or `_`, which is 95, and then any number of characters that may stand in one
abbrev pub are_name_chars : List ℕ → Bool
are_name_chars [] = false
are_name_chars (c ∷ cs) = (is_xid_start c || (c == 95)) && list_all is_xid_continue cs

-- the characters of the text are those of a name
abbrev pub is_name : List ℕ → Bool
is_name text = are_name_chars (chars text)

-- a name that is no reserved word
abbrev pub is_plain_name : List ℕ → Bool
is_plain_name text = is_name text && is_none (reserved_place text)
