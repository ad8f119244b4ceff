-- Reading what a record says, from the bytes of its key and of its value.
use Rattle.std.specs.Prelude.{ℕ, ◌==◌, Bool, true, false, List, [], ◌∷◌, length, Option, Some, None, if◌then◌else◌}
use Rattle.std.specs.Int.{w32}
use Rattle.gql_values3.specs.Datum.{Datum}
use Rattle.gql_values3.specs.Texts.{same_text}
use Rattle.gql_values3.specs.declared.element.Ends.{Ends}
use Rattle.gql_values3.specs.declared.element.Ends.TheVariants.{Directed, Undirected}
use Rattle.gql_values3.specs.declared.records.NodeRecord.{NodeRecord}
use Rattle.gql_values3.specs.declared.records.EdgeRecord.{EdgeRecord}
use Rattle.gql_fields.specs.Machinery.Reading.{◌>>=◌, number_at, text_at, flag_at, labels_at, properties_at}
use Rattle.gql_typecode.specs.Machinery.TypeReading.{whole_type_at}
use Rattle.gql_rowcode.specs.Records.{Form, version, graph_type, graph, node, edge}

-- one part behind another
abbrev pub both_at : {A B : Type 0} → (List ℕ → Option (A × List ℕ)) → (List ℕ → Option (B × List ℕ)) → List ℕ → Option ((A × B) × List ℕ)
both_at first second bytes = do
  a ← first bytes
  b ← second a.1
  Some ((a.0, b.0), b.1)

-- what was read, where nothing stands behind it
abbrev pub without_rest : {A : Type 0} → A × List ℕ → Option A
without_rest x = if length x.1 == 0 then Some x.0 else None

-- to the last byte
abbrev pub whole_at : {A : Type 0} → (List ℕ → Option (A × List ℕ)) → List ℕ → Option A
whole_at read bytes = read bytes >>= without_rest

-- the name of a type behind the byte that tells whether there is one
abbrev pub type_name_behind : Bool × List ℕ → Option (Option (List ℕ) × List ℕ)
type_name_behind told = if told.0 then (text_at told.1 >>= λ name. Some (Some name.0, name.1)) else Some (None, told.1)

unfoldable pub type_name_at : List ℕ → Option (Option (List ℕ) × List ℕ)
type_name_at bytes = flag_at bytes >>= type_name_behind

-- the ends of an undirected edge or of a directed one
abbrev pub ends_between : Bool → ℕ → ℕ → Ends
ends_between false source target = Directed (record { 0 = source }) (record { 0 = target })
ends_between true low high = Undirected (record { 0 = low }) (record { 0 = high })

unfoldable pub ends_at : List ℕ → Option (Ends × List ℕ)
ends_at bytes = do
  undirected ← flag_at bytes
  numbers ← both_at (number_at w32) (number_at w32) undirected.1
  Some (ends_between undirected.0 numbers.0.0 numbers.0.1, numbers.1)

-- labels and properties
unfoldable pub content_at : List ℕ → Option ((List (List ℕ) × List (List ℕ × Datum)) × List ℕ)
content_at bytes = both_at labels_at properties_at bytes

-- all of a key behind its first byte: a name, or a name and a number
unfoldable pub name_key_at : List ℕ → Option (List ℕ)
name_key_at key = whole_at text_at key

unfoldable pub element_key_at : List ℕ → Option (List ℕ × ℕ)
element_key_at key = whole_at (both_at text_at (number_at w32)) key

-- all of the value of a graph: the name of its type and its next numbers
unfoldable pub graph_value_at : List ℕ → Option ((Option (List ℕ) × ℕ) × ℕ)
graph_value_at value = whole_at (both_at (both_at type_name_at (number_at w32)) (number_at w32)) value

-- of a node, and of an edge
unfoldable pub node_value_at : List ℕ → Option (List (List ℕ) × List (List ℕ × Datum))
node_value_at value = whole_at content_at value

unfoldable pub edge_value_at : List ℕ → Option (Ends × (List (List ℕ) × List (List ℕ × Datum)))
edge_value_at value = whole_at (both_at ends_at content_at) value

-- what a record says, by the first byte of its key
abbrev pub version_value_at : List ℕ → Option Form
version_value_at value = if same_text value (1 ∷ []) then Some version else None

unfoldable pub version_form_at : List ℕ → List ℕ → Option Form
version_form_at key value = if length key == 0 then version_value_at value else None

unfoldable pub type_form_at : List ℕ → List ℕ → Option Form
type_form_at key value = do
  name ← name_key_at key
  kind ← whole_type_at value
  Some (graph_type name kind)

unfoldable pub graph_form_at : List ℕ → List ℕ → Option Form
graph_form_at key value = do
  name ← name_key_at key
  rest ← graph_value_at value
  Some (graph name rest.0.0 rest.0.1 rest.1)

abbrev pub node_record : ℕ → List (List ℕ) → List (List ℕ × Datum) → NodeRecord
node_record number labels properties = record { number = record { 0 = number }; labels = labels; properties = properties }

unfoldable pub node_form_at : List ℕ → List ℕ → Option Form
node_form_at key value = do
  place ← element_key_at key
  content ← node_value_at value
  Some (node place.0 (node_record place.1 content.0 content.1))

abbrev pub edge_record : ℕ → Ends → List (List ℕ) → List (List ℕ × Datum) → EdgeRecord
edge_record number ends labels properties = record { number = record { 0 = number }; ends = ends; labels = labels; properties = properties }

unfoldable pub edge_form_at : List ℕ → List ℕ → Option Form
edge_form_at key value = do
  place ← element_key_at key
  content ← edge_value_at value
  Some (edge place.0 (edge_record place.1 content.0 content.1.0 content.1.1))

unfoldable pub form_at : List ℕ → List ℕ → Option Form
form_at [] value = None
form_at (kind ∷ key) value =
    if kind == 0 then version_form_at key value
    else (if kind == 1 then type_form_at key value
    else (if kind == 2 then graph_form_at key value
    else (if kind == 3 then node_form_at key value
    else (if kind == 4 then edge_form_at key value else None))))
