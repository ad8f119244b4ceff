-- FillerReaders: reading what stands between the brackets of an element, and WHERE.
use Rattle.std.specs.Prelude.{ℕ, List, Option, Some, None, option_map}
use Rattle.gql_lexer.specs.declared.lexeme.Lexeme.{Lexeme}
use Rattle.gql_ast.specs.declared.expr.Expr.{Expr}
use Rattle.gql_ast.specs.declared.label.LabelExpr.{LabelExpr}
use Rattle.gql_ast.specs.declared.filler.Condition.{Condition}
use Rattle.gql_ast.specs.declared.filler.Condition.TheVariants as condition
use Rattle.gql_ast.specs.declared.filler.Filler.{Filler}
use Rattle.gql_ast.specs.declared.filler.MapItem.{MapItem}
use Rattle.gql_lexer.specs.SymbolPlaces.{opening_brace, colon}
use Rattle.gql_lexer.specs.WordPlaces.{WHERE}
use Rattle.gql_front.specs.Reading.{◌>>=◌, Reader, is_sign, is_word, name_in, any_name_in, after, op_at, maybe, opted}
use Rattle.gql_parts.specs.PartWords.{is_colon}
use Rattle.gql_parts.specs.Machinery.PartReaders.{read_value, read_labels, named_value_of, led, listed_to_brace}

-- [WHERE Expr]
unfoldable pub where_of : Reader (Option Expr)
where_of ts = led (is_word WHERE) read_value ts

abbrev pub as_map_item : List ℕ → Expr → MapItem
as_map_item x e = record { name = x; value = e }

unfoldable pub map_item_of : Reader MapItem
map_item_of ts = named_value_of any_name_in colon as_map_item ts

-- [list(Any ":" Expr)] "}"
unfoldable pub map_of : Reader (List MapItem)
map_of ts = listed_to_brace map_item_of ts

-- a map as a condition
abbrev pub as_condition : Option (List MapItem × List Lexeme) → Option (Condition × List Lexeme)
as_condition o = o >>= λ m. Some (condition.Map m.0, m.1)

-- [Map; WHERE Expr]
abbrev pub map_or_where : List Lexeme → Option (List Lexeme) → Option (Option Condition × List Lexeme)
map_or_where ts (Some a) = Some (opted ts (as_condition (map_of a)))
map_or_where ts None = do
  w ← where_of ts
  Some (option_map condition.Where w.0, w.1)

unfoldable pub condition_of : Reader (Option Condition)
condition_of ts = map_or_where ts (after (is_sign opening_brace) ts)

unfoldable pub variable_of : Reader (Option (List ℕ))
variable_of ts = maybe (op_at name_in) ts

unfoldable pub filler_labels_of : Reader (Option LabelExpr)
filler_labels_of ts = led is_colon read_labels ts

unfoldable pub filler_of : Reader Filler
filler_of ts = do
  x ← variable_of ts
  l ← filler_labels_of x.1
  c ← condition_of l.1
  Some (record { variable = x.0; labels = l.0; condition = c.0 }, c.1)
