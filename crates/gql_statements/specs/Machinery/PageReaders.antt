-- PageReaders: reading ORDER BY, OFFSET and LIMIT.
use Rattle.std.specs.Prelude.{List, Option, Some, None}
use Rattle.gql_lexer.specs.declared.lexeme.Lexeme.{Lexeme}
use Rattle.gql_ast.specs.declared.page.SortDirection.{SortDirection}
use Rattle.gql_ast.specs.declared.page.SortDirection.TheVariants as direction
use Rattle.gql_ast.specs.declared.page.SortItem.{SortItem}
use Rattle.gql_ast.specs.declared.page.RowCount.{RowCount}
use Rattle.gql_ast.specs.declared.page.Page.{Page}
use Rattle.gql_ast.specs.declared.page.Page.TheVariants as page
use Rattle.gql_lexer.specs.WordPlaces.{BY, LIMIT, NULLS}
use Rattle.gql_front.specs.Reading.{◌>>=◌, Reader, is_word, after, op_at}
use Rattle.gql_statements.specs.PartWords.{direction_word, null_word, count_in, is_skip}
use Rattle.gql_parts.specs.Machinery.PartReaders.{read_value, led, listed}

-- [ASC, ASCENDING, DESC or DESCENDING]
abbrev pub or_ascending : List Lexeme → Option (SortDirection × List Lexeme) → SortDirection × List Lexeme
or_ascending ts None = (direction.Ascending, ts)
or_ascending ts (Some x) = x

unfoldable pub direction_of : List Lexeme → SortDirection × List Lexeme
direction_of ts = or_ascending ts (op_at direction_word ts)

unfoldable pub sort_item_of : Reader SortItem
sort_item_of ts = do
  e ← read_value ts
  n ← led (is_word NULLS) (op_at null_word) (direction_of e.1).1
  Some (record { key = e.0; direction = (direction_of e.1).0; nulls = n.0 }, n.1)

unfoldable pub sort_items_of : Reader (List SortItem)
sort_items_of = listed sort_item_of

-- behind ORDER
unfoldable pub order_of : Reader (List SortItem)
order_of ts = do
  a ← after (is_word BY) ts
  sort_items_of a

-- [Skip] and [Limit]
unfoldable pub skip_of : Reader (Option RowCount)
skip_of ts = led is_skip (op_at count_in) ts

unfoldable pub limit_of : Reader (Option RowCount)
limit_of ts = led (is_word LIMIT) (op_at count_in) ts

-- the three forms, each behind its first word
unfoldable pub order_page_of : Reader Page
order_page_of ts = do
  o ← order_of ts
  s ← skip_of o.1
  l ← limit_of s.1
  Some (page.Order o.0 s.0 l.0, l.1)

unfoldable pub skip_page_of : Reader Page
skip_page_of ts = do
  c ← op_at count_in ts
  l ← limit_of c.1
  Some (page.Skip c.0 l.0, l.1)

unfoldable pub limit_page_of : Reader Page
limit_page_of ts = do
  c ← op_at count_in ts
  Some (page.Limit c.0, c.1)
