-- Lists of keys as sets: whether a key stands in one, and whether it does after records were put and keys dropped.
use Rattle.std.specs.Prelude.{ℕ, Bool, true, false, List, map, if◌then◌else◌}
use Rattle.std.specs.List.{list_any}
use Rattle.gql_values3.specs.Texts.{same_text}
use Rattle.gql_ports.specs.declared.stored.Record.{Record}

-- the key stands in the list
abbrev pub has_key : List (List ℕ) → List ℕ → Bool
has_key keys key = list_any (same_text key) keys

-- the keys of records
abbrev pub keys_of : List Record → List (List ℕ)
keys_of records = map (λ (r : Record). r.key) records

-- whether a key stands after these were put and those dropped, where before it did or not
abbrev pub stands_after : List Record → List (List ℕ) → List ℕ → Bool → Bool
stands_after puts drops key before =
    if has_key (keys_of puts) key then true
    else if has_key drops key then false
    else before
