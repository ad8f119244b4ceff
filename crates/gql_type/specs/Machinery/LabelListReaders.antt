-- Reading the labels of an element.
use Rattle.std.specs.Prelude.{ℕ, List, ◌∷◌, length, Option, Some}
use Rattle.gql_lexer.specs.SymbolPlaces.{ampersand}
use Rattle.gql_front.specs.Reading.{◌>>=◌, Reader, is_sign, any_name_in, after, op_at, many}
use Rattle.gql_parts.specs.PartWords.{is_colon}
use Rattle.gql_parts.specs.Machinery.PartReaders.{led}

-- "&" Any
unfoldable pub other_label_of : Reader (List ℕ)
other_label_of ts = do
  a ← after (is_sign ampersand) ts
  op_at any_name_in a

-- Any {"&" Any}*
unfoldable pub label_names_of : Reader (List (List ℕ))
label_names_of ts = do
  x ← op_at any_name_in ts
  Some (x.0 ∷ (many other_label_of (length x.1) x.1).0, (many other_label_of (length x.1) x.1).1)

-- [(":" or IS) Labels]
unfoldable pub optional_labels_of : Reader (Option (List (List ℕ)))
optional_labels_of ts = led is_colon label_names_of ts
