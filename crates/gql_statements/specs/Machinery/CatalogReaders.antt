-- CatalogReaders: reading statements about the graphs and graph types.
use Rattle.std.specs.Prelude.{ℕ, Bool, List, Option, Some, None}
use Rattle.gql_lexer.specs.declared.lexeme.Lexeme.{Lexeme}
use Rattle.gql_ast.specs.declared.statement.CatalogStatement.{CatalogStatement}
use Rattle.gql_ast.specs.declared.statement.CatalogStatement.TheVariants as catalog
use Rattle.gql_ast.specs.declared.statement.GraphKind.{GraphKind}
use Rattle.gql_ast.specs.declared.statement.GraphKind.TheVariants as kind
use Rattle.gql_lexer.specs.WordPlaces.{ANY, AS, EXISTS, IF, NOT, TYPE}
use Rattle.gql_front.specs.Reading.{◌>>=◌, Reader, is_word, name_in, after, op_at}
use Rattle.gql_parts.specs.Machinery.PartReaders.{past}
use Rattle.gql_type.specs.TypeWords.{is_typed}
use Rattle.gql_type.specs.Machinery.TypeReaders.{are_said, type_body_of}
use Rattle.gql_statements.specs.Machinery.GraphReaders.{after_graph, past_graph}

-- behind IF NOT EXISTS
unfoldable pub after_if_not_exists : List Lexeme → Option (List Lexeme)
after_if_not_exists ts = do
  a ← after (is_word IF) ts
  b ← after (is_word NOT) a
  after (is_word EXISTS) b

-- [IF NOT EXISTS]
unfoldable pub if_not_exists_of : List Lexeme → Bool × List Lexeme
if_not_exists_of ts = are_said ts (after_if_not_exists ts)

-- behind IF EXISTS
unfoldable pub after_if_exists : List Lexeme → Option (List Lexeme)
after_if_exists ts = do
  a ← after (is_word IF) ts
  after (is_word EXISTS) a

-- [IF EXISTS]
unfoldable pub if_exists_of : List Lexeme → Bool × List Lexeme
if_exists_of ts = are_said ts (after_if_exists ts)

-- [IF NOT EXISTS] Name
unfoldable pub created_name_of : Reader (Bool × List ℕ)
created_name_of ts = do
  x ← op_at name_in (if_not_exists_of ts).1
  Some (((if_not_exists_of ts).0, x.0), x.1)

-- [IF EXISTS] Name
unfoldable pub dropped_name_of : Reader (Bool × List ℕ)
dropped_name_of ts = do
  x ← op_at name_in (if_exists_of ts).1
  Some (((if_exists_of ts).0, x.0), x.1)

-- ANY [[PROPERTY] GRAPH]
unfoldable pub any_kind_of : Reader GraphKind
any_kind_of ts = do
  a ← after (is_word ANY) ts
  Some (kind.Any, past_graph a)

abbrev pub any_or_name : List Lexeme → Option (GraphKind × List Lexeme) → Option (GraphKind × List Lexeme)
any_or_name ts (Some k) = Some k
any_or_name ts None = do
  x ← op_at name_in ts
  Some (kind.Typed x.0, x.1)

-- behind TYPED or "::"
unfoldable pub typed_kind_of : Reader GraphKind
typed_kind_of ts = any_or_name ts (any_kind_of ts)

abbrev pub typed_or_any : List Lexeme → Option (List Lexeme) → Option (GraphKind × List Lexeme)
typed_or_any ts (Some a) = typed_kind_of a
typed_or_any ts None = any_kind_of ts

unfoldable pub graph_kind_of : Reader GraphKind
graph_kind_of ts = typed_or_any ts (after is_typed ts)

-- behind CREATE [PROPERTY] GRAPH
unfoldable pub create_graph_of : Reader CatalogStatement
create_graph_of ts = do
  n ← created_name_of ts
  k ← graph_kind_of n.1
  Some (catalog.CreateGraph n.0.0 n.0.1 k.0, k.1)

-- behind CREATE [PROPERTY] GRAPH TYPE
unfoldable pub create_type_of : Reader CatalogStatement
create_type_of ts = do
  n ← created_name_of ts
  b ← type_body_of (past (is_word AS) n.1)
  Some (catalog.CreateType n.0.0 n.0.1 b.0, b.1)

abbrev pub type_or_graph : List Lexeme → Option (List Lexeme) → Option (CatalogStatement × List Lexeme)
type_or_graph ts (Some a) = create_type_of a
type_or_graph ts None = create_graph_of ts

-- behind CREATE
unfoldable pub create_of : Reader CatalogStatement
create_of ts = do
  a ← after_graph ts
  type_or_graph a (after (is_word TYPE) a)

-- behind DROP [PROPERTY] GRAPH
abbrev pub type_or_graph_name : List Lexeme → Option (List Lexeme) → Option (CatalogStatement × List Lexeme)
type_or_graph_name ts (Some a) = do
  n ← dropped_name_of a
  Some (catalog.DropType n.0.0 n.0.1, n.1)
type_or_graph_name ts None = do
  n ← dropped_name_of ts
  Some (catalog.DropGraph n.0.0 n.0.1, n.1)

-- behind DROP
unfoldable pub drop_of : Reader CatalogStatement
drop_of ts = do
  a ← after_graph ts
  type_or_graph_name a (after (is_word TYPE) a)
