-- Changes of a list of keys, and the list after them, as the code makes it in one go over both.
use Rattle.std.specs.Prelude.{ℕ, Bool, true, false, not, ◌&&◌, List, [], ◌∷◌, ◌++◌, map, if◌then◌else◌}
use Rattle.std.specs.List.{list_any}
use Rattle.std.specs.Ordering.{nat_cmp}
use Rattle.std.specs.Cmp.Lexicographic.{slice_cmp}
use Rattle.std.specs.declared.cmp.Ordering.{Ordering}
use Rattle.std.specs.declared.cmp.Ordering.TheVariants.{Less, Equal, Greater}
use Rattle.gql_values3.specs.Texts.{same_text, texts_ascend}
use Rattle.gql_ports.specs.declared.stored.Record.{Record}
use Rattle.gql_keep_sql.specs.declared.changes.Change.{Change}

-- the change that puts a record, and the one that drops a key
abbrev pub put_of : Record → Change
put_of r = record { key = r.key; is_put = true }

abbrev pub drop_of : List ℕ → Change
drop_of key = record { key = key; is_put = false }

-- their keys strictly ascend
abbrev pub changes_ascend : List Change → Bool
changes_ascend changes = texts_ascend (map (λ (c : Change). c.key) changes)

-- the key is put
abbrev pub is_put_in : List Change → List ℕ → Bool
is_put_in changes key = list_any (λ (c : Change). c.is_put && same_text key c.key) changes

-- the key is put or dropped
abbrev pub is_changed_in : List Change → List ℕ → Bool
is_changed_in changes key = list_any (λ (c : Change). same_text key c.key) changes

-- the record stays under the changes, which neither put nor drop its key
abbrev pub is_kept : List Change → Record → Bool
is_kept changes r = not (is_changed_in changes r.key)

-- whether a key stands after the changes
abbrev pub stands_under : List Change → List ℕ → Bool → Bool
stands_under changes key before =
    if is_put_in changes key then true
    else if is_changed_in changes key then false
    else before

-- how a key compares with another, by bytes
abbrev pub key_cmp : List ℕ → List ℕ → Ordering
key_cmp a b = slice_cmp nat_cmp a b

-- of ascending keys those below a key
abbrev pub below_compared : Ordering → List ℕ → List (List ℕ) → List (List ℕ)
below_compared Less key behind = key ∷ behind
below_compared Equal key behind = []
below_compared Greater key behind = []

abbrev pub below : List ℕ → List (List ℕ) → List (List ℕ)
below at [] = []
below at (key ∷ more) = below_compared (key_cmp key at) key (below at more)

-- of ascending keys those above a key
abbrev pub above_compared : Ordering → List ℕ → List (List ℕ) → List (List ℕ) → List (List ℕ)
above_compared Less key more behind = behind
above_compared Equal key more behind = more
above_compared Greater key more behind = key ∷ more

abbrev pub above : List ℕ → List (List ℕ) → List (List ℕ)
above at [] = []
above at (key ∷ more) = above_compared (key_cmp key at) key more (above at more)

-- the key of a change in front of others, where it is put
abbrev pub put_before : Change → List (List ℕ) → List (List ℕ)
put_before c keys = if c.is_put then c.key ∷ keys else keys

-- the keys after the changes
abbrev pub merged : List (List ℕ) → List Change → List (List ℕ)
merged keys [] = keys
merged keys (c ∷ more) = below c.key keys ++ put_before c (merged (above c.key keys) more)
