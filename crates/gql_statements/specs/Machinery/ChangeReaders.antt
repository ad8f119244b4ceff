-- ChangeReaders: reading INSERT, SET, REMOVE and DELETE, each behind its first word.
use Rattle.std.specs.Prelude.{ℕ, List, length, Option, Some, None}
use Rattle.gql_lexer.specs.declared.lexeme.Lexeme.{Lexeme}
use Rattle.gql_ast.specs.declared.change.Arrow.{Arrow}
use Rattle.gql_ast.specs.declared.change.ChangeClause.{ChangeClause}
use Rattle.gql_ast.specs.declared.change.ChangeClause.TheVariants as change
use Rattle.gql_ast.specs.declared.change.Detachment.{Detachment}
use Rattle.gql_ast.specs.declared.change.Detachment.TheVariants as detachment
use Rattle.gql_ast.specs.declared.change.Fill.{Fill}
use Rattle.gql_ast.specs.declared.change.InsertPath.{InsertPath}
use Rattle.gql_ast.specs.declared.change.InsertStep.{InsertStep}
use Rattle.gql_ast.specs.declared.change.RemoveItem.{RemoveItem}
use Rattle.gql_ast.specs.declared.change.RemoveItem.TheVariants as remove_item
use Rattle.gql_ast.specs.declared.change.SetItem.{SetItem}
use Rattle.gql_ast.specs.declared.change.SetItem.TheVariants as set_item
use Rattle.gql_ast.specs.declared.filler.MapItem.{MapItem}
use Rattle.gql_lexer.specs.SymbolPlaces.{opening, closing, opening_bracket, closing_bracket, opening_brace, dot, equal}
use Rattle.gql_lexer.specs.WordPlaces.{DELETE}
use Rattle.gql_front.specs.Reading.{◌>>=◌, Reader, is_sign, is_word, name_in, any_name_in, after, op_at, many}
use Rattle.gql_statements.specs.declared.change_word.ChangeWord.{ChangeWord}
use Rattle.gql_statements.specs.declared.change_word.ChangeWord.TheVariants as changes
use Rattle.gql_type.specs.Machinery.LabelListReaders.{optional_labels_of}
use Rattle.gql_type.specs.TypeWords.{arrow_sign, closing_of}
use Rattle.gql_parts.specs.PartWords.{is_colon}
use Rattle.gql_parts.specs.Machinery.PartReaders.{read_value, led, listed}
use Rattle.gql_parts.specs.Machinery.FillerReaders.{map_of, variable_of}
use Rattle.gql_statements.specs.Machinery.ReturnReaders.{names_of}

-- [Map]
unfoldable pub fill_map_of : Reader (Option (List MapItem))
fill_map_of ts = led (is_sign opening_brace) map_of ts

unfoldable pub fill_of : Reader Fill
fill_of ts = do
  x ← variable_of ts
  l ← optional_labels_of x.1
  m ← fill_map_of l.1
  Some (record { variable = x.0; labels = l.0; map = m.0 }, m.1)

-- Fill between two symbols
unfoldable pub between_of : ℕ → ℕ → Reader Fill
between_of first last ts = do
  a ← after (is_sign first) ts
  f ← fill_of a
  r ← after (is_sign last) f.1
  Some (f.0, r)

-- "(" Fill ")"
abbrev pub insert_node_of : Reader Fill
insert_node_of = between_of opening closing

-- "[" Fill "]"
abbrev pub bracketed_of : Reader Fill
bracketed_of = between_of opening_bracket closing_bracket

unfoldable pub insert_edge_of : Reader (Arrow × Fill)
insert_edge_of ts = do
  w ← op_at arrow_sign ts
  f ← bracketed_of w.1
  r ← after (is_sign (closing_of w.0)) f.1
  Some ((w.0, f.0), r)

unfoldable pub insert_step_of : Reader InsertStep
insert_step_of ts = do
  e ← insert_edge_of ts
  n ← insert_node_of e.1
  Some (record { arrow = e.0.0; edge = e.0.1; node = n.0 }, n.1)

unfoldable pub insert_steps_of : List Lexeme → List InsertStep × List Lexeme
insert_steps_of ts = many insert_step_of (length ts) ts

unfoldable pub insert_path_of : Reader InsertPath
insert_path_of ts = do
  n ← insert_node_of ts
  Some (record { start = n.0; steps = (insert_steps_of n.1).0 }, (insert_steps_of n.1).1)

unfoldable pub insert_paths_of : Reader (List InsertPath)
insert_paths_of = listed insert_path_of

-- behind a name: "." Any; (":" or IS) Any
abbrev pub property_or_label : List ℕ → List Lexeme → Option (List Lexeme) → Option (RemoveItem × List Lexeme)
property_or_label x ts (Some a) = do
  p ← op_at any_name_in a
  Some (remove_item.Property x p.0, p.1)
property_or_label x ts None = do
  a ← after is_colon ts
  l ← op_at any_name_in a
  Some (remove_item.Label x l.0, l.1)

unfoldable pub remove_item_of : Reader RemoveItem
remove_item_of ts = do
  x ← op_at name_in ts
  property_or_label x.0 x.1 (after (is_sign dot) x.1)

unfoldable pub remove_items_of : Reader (List RemoveItem)
remove_items_of = listed remove_item_of

-- what SET does to the property or the label that REMOVE would take away
abbrev pub set_to : RemoveItem → Reader SetItem
set_to (remove_item.Property x p) ts = do
  a ← after (is_sign equal) ts
  e ← read_value a
  Some (set_item.Property x p e.0, e.1)
set_to (remove_item.Label x l) ts = Some (set_item.Label x l, ts)

unfoldable pub set_item_of : Reader SetItem
set_item_of ts = do
  i ← remove_item_of ts
  set_to i.0 i.1

unfoldable pub set_items_of : Reader (List SetItem)
set_items_of = listed set_item_of

-- behind DELETE
unfoldable pub delete_of : Detachment → Reader ChangeClause
delete_of d ts = do
  xs ← names_of ts
  Some (change.Delete d xs.0, xs.1)

-- behind DETACH or NODETACH
abbrev pub delete_behind_of : Detachment → Reader ChangeClause
delete_behind_of d ts = do
  a ← after (is_word DELETE) ts
  delete_of d a

-- behind the word that begins a change
abbrev pub change_behind : ChangeWord → Reader ChangeClause
change_behind changes.Insert ts = do
  ps ← insert_paths_of ts
  Some (change.Insert ps.0, ps.1)
change_behind changes.Set ts = do
  is ← set_items_of ts
  Some (change.Set is.0, is.1)
change_behind changes.Remove ts = do
  is ← remove_items_of ts
  Some (change.Remove is.0, is.1)
change_behind changes.Delete ts = delete_of detachment.NoDetach ts
change_behind (changes.Detaching d) ts = delete_behind_of d ts
