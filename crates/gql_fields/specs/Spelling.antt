-- How texts, labels, values and properties are spelled in bytes. Numbers stand high byte first.
use Rattle.std.specs.Prelude.{ℕ, ℤ, pos, negsuc, ◌-◌, ◌^◌, Bool, true, false, List, [], ◌∷◌, ◌++◌, length}
use Rattle.std.specs.Int.{to_be_bytes, w64}
use Rattle.std.specs.List.{flat_map}
use Rattle.gql_values3.specs.Datum.{Datum, Data, null, boolean, integer, text, list, node, edge, path, no_data, more_data, items_of}

-- a text: eight bytes of its length, and its bytes
abbrev pub spelled : List ℕ → List ℕ
spelled bytes = to_be_bytes w64 (length bytes) ++ bytes

-- a set of labels: eight bytes of how many, and each as a text
abbrev pub labels_spelled : List (List ℕ) → List ℕ
labels_spelled labels = to_be_bytes w64 (length labels) ++ flat_map spelled labels

-- yes or no, in one byte
abbrev pub flag_spelled : Bool → ℕ
flag_spelled false = 0
flag_spelled true = 1

-- an integer of 64 bits in two's complement
abbrev pub twos_complement : ℤ → ℕ
twos_complement (pos n) = n
twos_complement (negsuc n) = (2 ^ 64 - 1) - n

-- a value: a byte that tells its kind, and its content; elements and paths are in no property, and are spelled by nothing
abbrev mutual
  pub value_spelled : Datum → List ℕ
  value_spelled null = 0 ∷ []
  value_spelled (boolean b) = 1 ∷ flag_spelled b ∷ []
  value_spelled (integer z) = 2 ∷ to_be_bytes w64 (twos_complement z)
  value_spelled (text t) = 3 ∷ spelled t
  value_spelled (list ds) = 4 ∷ (to_be_bytes w64 (length (items_of ds)) ++ values_spelled ds)
  value_spelled (node n) = []
  value_spelled (edge e) = []
  value_spelled (path p) = []

  pub values_spelled : Data → List ℕ
  values_spelled no_data = []
  values_spelled (more_data d ds) = value_spelled d ++ values_spelled ds

-- a property: its name, and its value
abbrev pub property_spelled : List ℕ × Datum → List ℕ
property_spelled p = spelled p.0 ++ value_spelled p.1

-- a property map: eight bytes of how many, and each property
abbrev pub properties_spelled : List (List ℕ × Datum) → List ℕ
properties_spelled ps = to_be_bytes w64 (length ps) ++ flat_map property_spelled ps

-- what a node and an edge hold alike
abbrev pub content_spelled : List (List ℕ) → List (List ℕ × Datum) → List ℕ
content_spelled labels ps = labels_spelled labels ++ properties_spelled ps
