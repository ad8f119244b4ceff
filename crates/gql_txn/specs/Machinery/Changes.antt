-- What a store has to be told so that it holds other records: what is new or differs, and which keys are gone.
use Rattle.std.specs.Prelude.{ℕ, Bool, true, false, not, ◌&&◌, List, map, filter, slice_get, is_some, Option, Some, None}
use Rattle.std.specs.Ordering.{nat_cmp}
use Rattle.std.specs.Cmp.Lexicographic.{pointwise, slice_cmp}
use Rattle.std.specs.declared.cmp.Ordering.{Ordering}
use Rattle.std.specs.declared.cmp.Ordering.TheVariants.{Less, Equal, Greater}
use Rattle.gql_values3.specs.Texts.{same_text}
use Rattle.gql_ports.specs.Held.{value_at}
use Rattle.gql_ports.specs.declared.stored.Record.{Record}

-- the same key and the same value
abbrev pub same_record : Record → Record → Bool
same_record a b = same_text a.key b.key && same_text a.value b.value

-- the same records in the same order
abbrev pub same_records : List Record → List Record → Bool
same_records some others = pointwise same_record some others

abbrev pub is_value : List ℕ → Option (List ℕ) → Bool
is_value value None = false
is_value value (Some other) = same_text value other

-- the record's key has its value among the records
abbrev pub has_record : List Record → Record → Bool
has_record records r = is_value r.value (value_at records r.key)

-- its key has a value among them
abbrev pub has_key : List Record → Record → Bool
has_key records r = is_some (value_at records r.key)

abbrev pub is_less : Ordering → Bool
is_less Less = true
is_less Equal = false
is_less Greater = false

abbrev pub lies_below : List ℕ → Option Record → Bool
lies_below key None = false
lies_below key (Some r) = is_less (slice_cmp nat_cmp r.key key)

-- at the place stands a record, and its key is below this one
abbrev pub is_below : List Record → ℕ → List ℕ → Bool
is_below records place key = lies_below key (slice_get records place)

-- the records that are new or differ
abbrev pub puts_of : List Record → List Record → List Record
puts_of before after = filter (λ (r : Record). not (has_record before r)) after

-- the records whose keys are gone
abbrev pub gone_of : List Record → List Record → List Record
gone_of before after = filter (λ (r : Record). not (has_key after r)) before

abbrev pub drops_of : List Record → List Record → List (List ℕ)
drops_of before after = map (λ (r : Record). r.key) (gone_of before after)
