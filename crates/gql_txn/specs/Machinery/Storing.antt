-- What storing does to the records that a store tells.
use Rattle.std.specs.Prelude.{◌≡◌, ◌⊎◌, ℕ, List, [], IsTrue}
use Rattle.gql_ports.specs.Held.{Holding, keys_ascend, Applies}
use Rattle.gql_ports.specs.declared.stored.Record.{Record}

-- all is put and dropped, and the records are in order
abbrev pub AppliesInOrder : List Record → List (List ℕ) → Holding → Holding → Type 0
AppliesInOrder puts drops h k = Applies puts drops h k × IsTrue (keys_ascend k.records)

-- A store that holds the records before holds those after; so does one without records, unless there is no change.
pub record Leads (before after : List Record) (h k : Holding) : Type 0 where
  pub name : k.name ≡ h.name
  pub held : h.records ≡ before → k.records ≡ after
  pub empty : h.records ≡ [] → (k.records ≡ after) ⊎ ((k.records ≡ []) × (after ≡ before))
