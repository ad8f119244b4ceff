-- Stored: the bytes of a text as it is stored.
use Rattle.std.specs.Prelude.{ℕ, List, string_bytes}
use Rattle.gql_values3.specs.declared.text.Stored.{Stored}
use Rattle.gql_values3.specs.declared.text.Stored.TheVariants.{Short, Long}

-- a short text lies in its place, a long one in an allocation of its own
abbrev pub stored_bytes : Stored → List ℕ
stored_bytes (Short text) = text
stored_bytes (Long text) = string_bytes text.value
