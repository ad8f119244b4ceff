-- Where a key stands among records, or where it would go.
use Rattle.std.specs.Prelude.{◌≡◌, ℕ, ◌<◌, ◌≤◌, List, length, slice_index_or}
use Rattle.std.specs.Ordering.{nat_cmp}
use Rattle.std.specs.Cmp.Lexicographic.{slice_cmp}
use Rattle.std.specs.declared.cmp.Ordering.{Ordering}
use Rattle.std.specs.declared.cmp.Ordering.TheVariants.{Less, Greater}
use Rattle.gql_ports.specs.declared.stored.Record.{Record}

-- how the key of the record at a place compares with a key, by bytes
abbrev pub cmp_at : List Record → ℕ → Record → List ℕ → Ordering
cmp_at records i d key = slice_cmp nat_cmp (slice_index_or records i d).key key

-- the record at place i has the key
pub record IsAt (records : List Record) (key : List ℕ) (i : ℕ) : Type 0 where
  pub in_range : i < length records
  pub has_key : (d : Record) → (slice_index_or records i d).key ≡ key

-- the key would go to place i: lesser keys before it, and greater keys from it on
pub record IsGapFor (records : List Record) (key : List ℕ) (i : ℕ) : Type 0 where
  pub in_range : i ≤ length records
  pub less_before : (j : ℕ) (d : Record) → j < i → cmp_at records j d key ≡ Less
  pub greater_after : (j : ℕ) (d : Record) → i ≤ j → j < length records → cmp_at records j d key ≡ Greater
