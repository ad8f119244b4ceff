-- The records that a keeper holds, as a finite map from keys to values.
use Rattle.std.specs.Prelude.{◌≡◌, ℕ, Bool, true, false, List, [], map, find, is_some, Option, Some, None, option_map, if◌then◌else◌}
use Rattle.std.specs.List.{list_any}
use Rattle.gql_values3.specs.Texts.{same_text, texts_ascend}
use Rattle.gql_ports.specs.declared.stored.Record.{Record}

-- the keys strictly ascend by bytes
abbrev pub keys_ascend : List Record → Bool
keys_ascend records = texts_ascend (map (λ r. r.key) records)

-- the store's name, or none in memory, and its records
pub record Holding : Type 0 where
  pub name : Option (List ℕ)
  pub records : List Record

-- one name, or none both times
abbrev pub same_name : Option (List ℕ) → Option (List ℕ) → Bool
same_name None None = true
same_name (Some a) (Some b) = same_text a b
same_name _ _ = false

-- what is held after an `open` of this name that went well
abbrev pub held_after_opening : Option (List ℕ) → Holding → Holding
held_after_opening name h = if same_name name h.name then h else record { name = name; records = [] }

-- the value of a key, where there is one
abbrev pub value_at : List Record → List ℕ → Option (List ℕ)
value_at records key = option_map (λ (r : Record). r.value) (find (λ (r : Record). same_text key r.key) records)

-- the value of a key after these were put and those dropped
abbrev pub value_after : List Record → List (List ℕ) → List ℕ → Option (List ℕ) → Option (List ℕ)
value_after puts drops key before =
    if is_some (value_at puts key) then value_at puts key
    else if list_any (same_text key) drops then None
    else before

-- all these were put and all those dropped, and the rest stays
pub record Applies (puts : List Record) (drops : List (List ℕ)) (before after : Holding) : Type 0 where
  pub name : after.name ≡ before.name
  pub values : (key : List ℕ) → value_at after.records key ≡ value_after puts drops key (value_at before.records key)
