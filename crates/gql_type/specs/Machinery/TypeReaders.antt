-- Reading the body of a graph type.
use Rattle.std.specs.Prelude.{ℕ, Bool, true, false, not, ◌&&◌, if◌then◌else◌, List, Option, Some, None, is_some}
use Rattle.gql_lexer.specs.declared.lexeme.Lexeme.{Lexeme}
use Rattle.gql_lexer.specs.SymbolPlaces.{opening, closing, opening_bracket, closing_bracket, opening_brace, closing_brace, less, greater}
use Rattle.gql_lexer.specs.WordPlaces as word
use Rattle.gql_values3.specs.declared.prop_kind.Scalar.{Scalar}
use Rattle.gql_values3.specs.declared.prop_kind.PropKind.{PropKind}
use Rattle.gql_values3.specs.declared.prop_kind.PropKind.TheVariants as kind
use Rattle.gql_ast.specs.declared.change.Arrow.{Arrow}
use Rattle.gql_ast.specs.declared.graph_type.TypeProperty.{TypeProperty}
use Rattle.gql_ast.specs.declared.graph_type.ElementBody.{ElementBody}
use Rattle.gql_ast.specs.declared.graph_type.TypeElement.{TypeElement}
use Rattle.gql_ast.specs.declared.graph_type.TypeElement.TheVariants as element
use Rattle.gql_ast.specs.declared.graph_type.TypeBody.{TypeBody}
use Rattle.gql_front.specs.Reading.{◌>>=◌, Reader, is_sign, is_word, name_in, any_name_in, after, op_at, opted}
use Rattle.gql_parts.specs.Machinery.PartReaders.{led, listed, listed_to_brace, past}
use Rattle.gql_parts.specs.Machinery.FillerReaders.{variable_of}
use Rattle.gql_type.specs.Machinery.LabelListReaders.{optional_labels_of}
use Rattle.gql_type.specs.TypeWords.{scalar_word, is_typed, arrow_sign, closing_of}
use Rattle.gql_type.specs.declared.segment.TypeSegment.{TypeSegment}

-- NOT NULL
abbrev pub not_null_of : List Lexeme → Option (List Lexeme)
not_null_of ts = after (is_word word.NOT) ts >>= λ a. after (is_word word.NULL) a

-- whether words stand at the front, and what is behind them
abbrev pub are_said : List Lexeme → Option (List Lexeme) → Bool × List Lexeme
are_said ts None = (false, ts)
are_said ts (Some r) = (true, r)

-- [NOT NULL]
unfoldable pub required_of : List Lexeme → Bool × List Lexeme
required_of ts = are_said ts (not_null_of ts)

unfoldable pub list_kind_of : Reader PropKind
list_kind_of ts = do
  a ← after (is_word word.LIST) ts
  b ← after (is_sign less) a
  s ← op_at scalar_word b
  r ← after (is_sign greater) (required_of s.1).1
  Some (kind.Many s.0 (required_of s.1).0, r)

abbrev pub kind_or : List Lexeme → Option (Scalar × List Lexeme) → Option (PropKind × List Lexeme)
kind_or ts (Some s) = Some (kind.One s.0, s.1)
kind_or ts None = list_kind_of ts

unfoldable pub kind_of : Reader PropKind
kind_of ts = kind_or ts (op_at scalar_word ts)

unfoldable pub property_of : Reader TypeProperty
property_of ts = do
  x ← op_at any_name_in ts
  k ← kind_of (past is_typed x.1)
  Some (record { name = x.0; kind = k.0; required = (required_of k.1).0 }, (required_of k.1).1)

-- [list(Property)] "}"
unfoldable pub properties_of : Reader (List TypeProperty)
properties_of ts = listed_to_brace property_of ts

-- ["{" [list(Property)] "}"]
unfoldable pub braced_properties_of : Reader (Option (List TypeProperty))
braced_properties_of ts = led (is_sign opening_brace) properties_of ts

-- Content
unfoldable pub content_of : Reader ElementBody
content_of ts = do
  l ← optional_labels_of ts
  p ← braced_properties_of l.1
  Some (record { labels = l.0; properties = p.0 }, p.1)

-- "(" [Name] Content ")"
unfoldable pub type_node_of : Reader (Option (List ℕ) × ElementBody)
type_node_of ts = do
  a ← after (is_sign opening) ts
  x ← variable_of a
  b ← content_of x.1
  r ← after (is_sign closing) b.1
  Some ((x.0, b.0), r)

unfoldable pub end_of : Reader (List ℕ)
end_of ts = do
  a ← after (is_sign opening) ts
  x ← op_at name_in a
  r ← after (is_sign closing) x.1
  Some (x.0, r)

-- "[" Content "]"
unfoldable pub bracketed_of : Reader ElementBody
bracketed_of ts = do
  a ← after (is_sign opening_bracket) ts
  b ← content_of a
  r ← after (is_sign closing_bracket) b.1
  Some (b.0, r)

-- the edge in its symbols
unfoldable pub edge_of : Reader (Arrow × ElementBody)
edge_of ts = do
  w ← op_at arrow_sign ts
  b ← bracketed_of w.1
  r ← after (is_sign (closing_of w.0)) b.1
  Some ((w.0, b.0), r)

unfoldable pub segment_of : Reader TypeSegment
segment_of ts = do
  e ← edge_of ts
  y ← end_of e.1
  Some (record { arrow = e.0.0; body = e.0.1; target = y.0 }, y.1)

-- nothing but a name stands between the parentheses
abbrev pub is_alone : Option (List ℕ) → ElementBody → Bool
is_alone x b = is_some x && not (is_some b.labels) && not (is_some b.properties)

-- behind such parentheses an edge may stand
abbrev pub segment_behind : Option (List ℕ) → ElementBody → List Lexeme → Option TypeSegment × List Lexeme
segment_behind x b ts = if is_alone x b then opted ts (segment_of ts) else (None, ts)

abbrev pub made_element : Option TypeSegment → Option (List ℕ) → ElementBody → TypeElement
made_element None x b = element.Node x b
made_element (Some s) None b = element.Node None b
made_element (Some s) (Some x) b = element.Edge x s.arrow s.body s.target

unfoldable pub element_of : Reader TypeElement
element_of ts = do
  n ← type_node_of ts
  Some (made_element (segment_behind n.0.0 n.0.1 n.1).0 n.0.0 n.0.1, (segment_behind n.0.0 n.0.1 n.1).1)

unfoldable pub type_body_of : Reader TypeBody
type_body_of ts = do
  a ← after (is_sign opening_brace) ts
  es ← listed element_of a
  r ← after (is_sign closing_brace) es.1
  Some (record { elements = es.0 }, r)
