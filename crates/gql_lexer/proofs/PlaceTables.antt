-- Each constant is the place of its text.
use Rattle.std.proofs.Common.{◌≡◌, ℕ, List, [], ◌∷◌, codes, map, Option, Some, refl}
use Rattle.std.specs.List.{position}
use Rattle.gql_values3.specs.Names.{reserved_words}
use Rattle.gql_values3.specs.Texts.{same_text}
use Rattle.gql_lexer.specs.Forms.{symbols}
use Rattle.gql_lexer.specs.WordPlaces as word
use Rattle.gql_lexer.specs.SymbolPlaces as symbol

-- where each of these texts stands first
abbrev places_in : List (List ℕ) → List (List ℕ) → List (Option ℕ)
places_in all texts = map (λ t. position (same_text t) all) texts

-- the places of the constants
abbrev these : List ℕ → List (Option ℕ)
these places = map (λ p. Some p) places

reserved_word_places : places_in reserved_words (
    codes "ABS" ∷ codes "ACYCLIC" ∷ codes "ALL" ∷ codes "AND" ∷ codes "ANY" ∷ codes "AS" ∷ codes "ASC" ∷
    codes "ASCENDING" ∷ codes "BOOL" ∷ codes "BOOLEAN" ∷ codes "BY" ∷ codes "CARDINALITY" ∷ codes "CHAR_LENGTH" ∷
    codes "CLOSE" ∷ codes "COALESCE" ∷ codes "COLLECT_LIST" ∷ codes "COLUMNS" ∷ codes "COMMIT" ∷ codes "COUNT" ∷
    codes "CREATE" ∷ codes "DATE" ∷ codes "DELETE" ∷ codes "DESC" ∷ codes "DESCENDING" ∷ codes "DESTINATION" ∷
    codes "DETACH" ∷ codes "DIFFERENT" ∷ codes "DIRECTED" ∷ codes "DISTINCT" ∷ codes "DROP" ∷ codes "EDGES" ∷
    codes "ELEMENTS" ∷ codes "EXCEPT" ∷ codes "EXISTS" ∷ codes "FALSE" ∷ codes "FILTER" ∷ codes "FIRST" ∷
    codes "FOR" ∷ codes "FROM" ∷ codes "GRAPH" ∷ codes "GRAPH_TABLE" ∷ codes "GROUP" ∷ codes "GROUPS" ∷ codes "IF" ∷
    codes "IN" ∷ codes "INSERT" ∷ codes "INT" ∷ codes "INT64" ∷ codes "INTEGER" ∷ codes "INTERSECT" ∷ codes "IS" ∷
    codes "LABELED" ∷ codes "LAST" ∷ codes "LET" ∷ codes "LIMIT" ∷ codes "LIST" ∷ codes "MATCH" ∷ codes "MAX" ∷
    codes "MIN" ∷ codes "MOD" ∷ codes "NEXT" ∷ codes "NODETACH" ∷ codes "NOT" ∷ codes "NULL" ∷ codes "NULLS" ∷
    codes "OF" ∷ codes "OFFSET" ∷ codes "ONLY" ∷ codes "OPTIONAL" ∷ codes "OR" ∷ codes "ORDER" ∷ codes "ORDINALITY" ∷
    codes "OTHERWISE" ∷ codes "PATH" ∷ codes "PATHS" ∷ codes "PATH_LENGTH" ∷ codes "PROPERTY" ∷ codes "READ" ∷
    codes "REMOVE" ∷ codes "REPEATABLE" ∷ codes "RESET" ∷ codes "RETURN" ∷ codes "ROLLBACK" ∷ codes "SELECT" ∷
    codes "SESSION" ∷ codes "SET" ∷ codes "SHORTEST" ∷ codes "SIMPLE" ∷ codes "SKIP" ∷ codes "SOURCE" ∷
    codes "START" ∷ codes "STRING" ∷ codes "SUM" ∷ codes "TRAIL" ∷ codes "TRANSACTION" ∷ codes "TRUE" ∷
    codes "TYPE" ∷ codes "TYPED" ∷ codes "UNION" ∷ codes "UNKNOWN" ∷ codes "VALUE" ∷ codes "WALK" ∷ codes "WHERE" ∷
    codes "WITH" ∷ codes "WRITE" ∷ codes "XOR" ∷ [])
    ≡ these (
    word.ABS ∷ word.ACYCLIC ∷ word.ALL ∷ word.AND ∷ word.ANY ∷ word.AS ∷ word.ASC ∷ word.ASCENDING ∷ word.BOOL ∷
    word.BOOLEAN ∷ word.BY ∷ word.CARDINALITY ∷ word.CHAR_LENGTH ∷ word.CLOSE ∷ word.COALESCE ∷ word.COLLECT_LIST ∷
    word.COLUMNS ∷ word.COMMIT ∷ word.COUNT ∷ word.CREATE ∷ word.DATE ∷ word.DELETE ∷ word.DESC ∷ word.DESCENDING ∷
    word.DESTINATION ∷ word.DETACH ∷ word.DIFFERENT ∷ word.DIRECTED ∷ word.DISTINCT ∷ word.DROP ∷ word.EDGES ∷
    word.ELEMENTS ∷ word.EXCEPT ∷ word.EXISTS ∷ word.FALSE ∷ word.FILTER ∷ word.FIRST ∷ word.FOR ∷ word.FROM ∷
    word.GRAPH ∷ word.GRAPH_TABLE ∷ word.GROUP ∷ word.GROUPS ∷ word.IF ∷ word.IN ∷ word.INSERT ∷ word.INT ∷
    word.INT64 ∷ word.INTEGER ∷ word.INTERSECT ∷ word.IS ∷ word.LABELED ∷ word.LAST ∷ word.LET ∷ word.LIMIT ∷
    word.LIST ∷ word.MATCH ∷ word.MAX ∷ word.MIN ∷ word.MOD ∷ word.NEXT ∷ word.NODETACH ∷ word.NOT ∷ word.NULL ∷
    word.NULLS ∷ word.OF ∷ word.OFFSET ∷ word.ONLY ∷ word.OPTIONAL ∷ word.OR ∷ word.ORDER ∷ word.ORDINALITY ∷
    word.OTHERWISE ∷ word.PATH ∷ word.PATHS ∷ word.PATH_LENGTH ∷ word.PROPERTY ∷ word.READ ∷ word.REMOVE ∷
    word.REPEATABLE ∷ word.RESET ∷ word.RETURN ∷ word.ROLLBACK ∷ word.SELECT ∷ word.SESSION ∷ word.SET ∷
    word.SHORTEST ∷ word.SIMPLE ∷ word.SKIP ∷ word.SOURCE ∷ word.START ∷ word.STRING ∷ word.SUM ∷ word.TRAIL ∷
    word.TRANSACTION ∷ word.TRUE ∷ word.TYPE ∷ word.TYPED ∷ word.UNION ∷ word.UNKNOWN ∷ word.VALUE ∷ word.WALK ∷
    word.WHERE ∷ word.WITH ∷ word.WRITE ∷ word.XOR ∷ [])
unfolding reserved_words
reserved_word_places = refl

symbol_places : places_in symbols (
    codes "<->" ∷ codes "|+|" ∷ codes "<-" ∷ codes "->" ∷ codes "<~" ∷ codes "~>" ∷ codes "<>" ∷ codes "<=" ∷
    codes ">=" ∷ codes "||" ∷ codes "::" ∷ codes "-" ∷ codes "~" ∷ codes "<" ∷ codes ">" ∷ codes "=" ∷ codes "+" ∷
    codes "*" ∷ codes "/" ∷ codes "%" ∷ codes "(" ∷ codes ")" ∷ codes "[" ∷ codes "]" ∷ codes "{" ∷ codes "}" ∷
    codes "," ∷ codes ":" ∷ codes "." ∷ codes "&" ∷ codes "|" ∷ codes "!" ∷ codes "?" ∷ codes ";" ∷ [])
    ≡ these (
    symbol.left_right_arrow ∷ symbol.multiset_bar ∷ symbol.left_arrow ∷ symbol.right_arrow ∷ symbol.left_tilde ∷
    symbol.right_tilde ∷ symbol.not_equal ∷ symbol.less_or_equal ∷ symbol.greater_or_equal ∷ symbol.double_bar ∷
    symbol.double_colon ∷ symbol.minus ∷ symbol.tilde ∷ symbol.less ∷ symbol.greater ∷ symbol.equal ∷ symbol.plus ∷
    symbol.star ∷ symbol.slash ∷ symbol.percent ∷ symbol.opening ∷ symbol.closing ∷ symbol.opening_bracket ∷
    symbol.closing_bracket ∷ symbol.opening_brace ∷ symbol.closing_brace ∷ symbol.comma ∷ symbol.colon ∷ symbol.dot ∷
    symbol.ampersand ∷ symbol.bar ∷ symbol.bang ∷ symbol.question ∷ symbol.semicolon ∷ [])
unfolding symbols
symbol_places = refl
