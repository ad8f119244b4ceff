-- ReturnReaders: reading RETURN.
use Rattle.std.specs.Prelude.{ℕ, List, Option, Some, None}
use Rattle.gql_lexer.specs.declared.lexeme.Lexeme.{Lexeme}
use Rattle.gql_ast.specs.declared.page.SortItem.{SortItem}
use Rattle.gql_ast.specs.declared.projection.Return.{Return}
use Rattle.gql_ast.specs.declared.projection.ReturnItem.{ReturnItem}
use Rattle.gql_ast.specs.declared.projection.ReturnItems.{ReturnItems}
use Rattle.gql_ast.specs.declared.projection.ReturnItems.TheVariants as items
use Rattle.gql_lexer.specs.SymbolPlaces.{star}
use Rattle.gql_lexer.specs.WordPlaces.{AS, BY, GROUP, ORDER}
use Rattle.gql_front.specs.Reading.{◌>>=◌, Reader, is_sign, is_word, name_in, after, op_at}
use Rattle.gql_exprs.specs.Machinery.LeafReaders.{quantifier_of}
use Rattle.gql_parts.specs.Machinery.PartReaders.{read_value, led, listed}
use Rattle.gql_statements.specs.Machinery.PageReaders.{order_of, skip_of, limit_of}

-- [AS Name]
unfoldable pub alias_of : Reader (Option (List ℕ))
alias_of ts = led (is_word AS) (op_at name_in) ts

unfoldable pub return_item_of : Reader ReturnItem
return_item_of ts = do
  e ← read_value ts
  x ← alias_of e.1
  Some (record { value = e.0; name = x.0 }, x.1)

unfoldable pub return_list_of : Reader (List ReturnItem)
return_list_of = listed return_item_of

-- "*", or a list
abbrev pub all_or_listed : List Lexeme → Option (List Lexeme) → Option (ReturnItems × List Lexeme)
all_or_listed ts (Some r) = Some (items.All, r)
all_or_listed ts None = do
  is ← return_list_of ts
  Some (items.Listed is.0, is.1)

unfoldable pub return_items_of : Reader ReturnItems
return_items_of ts = all_or_listed ts (after (is_sign star) ts)

-- list(Name)
unfoldable pub names_of : Reader (List (List ℕ))
names_of = listed (op_at name_in)

-- behind GROUP
unfoldable pub grouped_of : Reader (List (List ℕ))
grouped_of ts = do
  a ← after (is_word BY) ts
  names_of a

unfoldable pub grouping_of : Reader (Option (List (List ℕ)))
grouping_of ts = led (is_word GROUP) grouped_of ts

-- [Order]
unfoldable pub ordering_of : Reader (Option (List SortItem))
ordering_of ts = led (is_word ORDER) order_of ts

-- behind RETURN
unfoldable pub return_of : Reader Return
return_of ts = do
  is ← return_items_of (quantifier_of ts).1
  g ← grouping_of is.1
  o ← ordering_of g.1
  s ← skip_of o.1
  l ← limit_of s.1
  Some (record { quantifier = (quantifier_of ts).0; items = is.0; grouping = g.0; order = o.0; skip = s.0; limit = l.0 }, l.1)
