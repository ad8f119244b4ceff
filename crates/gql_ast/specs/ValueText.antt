-- How values and names print.
use Rattle.std.specs.Prelude.{ℕ, ◌+◌, ◌/◌, ◌%◌, ◌==◌, ◌||◌, nat_lt, Bool, true, false, List, [], ◌∷◌, ◌++◌, codes, if◌then◌else◌}
use Rattle.std.specs.List.{flat_map}
use Rattle.std.specs.Fmt.{decimal, signed_decimal}
use Rattle.gql_values3.specs.Datum.{Datum, Data, PathData, null, boolean, integer, text, list, node, edge, path, no_data, more_data}
use Rattle.gql_values3.specs.Names.{is_name, is_plain_name}

-- an upper-case hexadecimal digit
abbrev pub hex_digit : ℕ → ℕ
hex_digit n = if nat_lt n 10 then 48 + n else 55 + n

-- a control character as `\u` and four digits
abbrev pub control : ℕ → List ℕ
control b = codes "\\u00" ++ hex_digit (b / 16) ∷ hex_digit (b % 16) ∷ []

-- a byte that needs no escape of its own; line feed, carriage return, tab, backspace and form feed have letters
abbrev pub escaped_byte : ℕ → List ℕ
escaped_byte b =
    if b == 92 then codes "\\\\"
    else if b == 10 then codes "\\n"
    else if b == 13 then codes "\\r"
    else if b == 9 then codes "\\t"
    else if b == 8 then codes "\\b"
    else if b == 12 then codes "\\f"
    else if nat_lt b 32 || (b == 127) then control b
    else b ∷ []

-- a byte within a string, whose quote is `'`
abbrev pub in_string : ℕ → List ℕ
in_string b = if b == 39 then codes "\\'" else escaped_byte b

-- a byte within a delimited name, where a backtick is doubled
abbrev pub in_ticks : ℕ → List ℕ
in_ticks b = if b == 96 then codes "``" else escaped_byte b

-- a byte of a column's name above the column, where quotes and backslashes stand as they are
abbrev pub in_header : ℕ → List ℕ
in_header b = if b == 92 then 92 ∷ [] else escaped_byte b

-- a string between its quotes
abbrev pub string_text : List ℕ → List ℕ
string_text t = 39 ∷ (flat_map in_string t ++ 39 ∷ [])

-- a name between its backticks
abbrev pub ticked_text : List ℕ → List ℕ
ticked_text x = 96 ∷ (flat_map in_ticks x ++ 96 ∷ [])

-- a name; one that is no plain name stands between backticks
abbrev pub name_text : List ℕ → List ℕ
name_text x = if is_plain_name x then x else ticked_text x

-- the name of a property or a label, where reserved words stand plain
abbrev pub any_name_text : List ℕ → List ℕ
any_name_text x = if is_name x then x else ticked_text x

-- a column's name above the column
abbrev pub header_text : List ℕ → List ℕ
header_text x = flat_map in_header x

-- a node prints as its number in parentheses
abbrev pub node_text : ℕ → List ℕ
node_text n = 40 ∷ (decimal n ++ 41 ∷ [])

-- an edge prints as its number in brackets
abbrev pub edge_text : ℕ → List ℕ
edge_text e = 91 ∷ (decimal e ++ 93 ∷ [])

-- a step of a path: its edge, and the node to which it leads
abbrev pub step_text : ℕ × ℕ → List ℕ
step_text s = edge_text s.0 ++ node_text s.1

-- the first node of a path, and its steps in order
abbrev pub path_text : PathData → List ℕ
path_text p = node_text p.start ++ flat_map step_text p.steps

-- a boolean prints as its word
abbrev pub boolean_text : Bool → List ℕ
boolean_text true = codes "TRUE"
boolean_text false = codes "FALSE"

-- the text of a value
abbrev mutual
  pub value_text : Datum → List ℕ
  value_text null = codes "NULL"
  value_text (boolean b) = boolean_text b
  value_text (integer z) = signed_decimal z
  value_text (text t) = string_text t
  value_text (list ds) = 91 ∷ (items_text ds ++ 93 ∷ [])
  value_text (node n) = node_text n
  value_text (edge e) = edge_text e
  value_text (path p) = path_text p

  -- the items, a comma and a space between two
  pub items_text : Data → List ℕ
  items_text no_data = []
  items_text (more_data d ds) = value_text d ++ more_items_text ds

  pub more_items_text : Data → List ℕ
  more_items_text no_data = []
  more_items_text (more_data d ds) = codes ", " ++ value_text d ++ more_items_text ds
