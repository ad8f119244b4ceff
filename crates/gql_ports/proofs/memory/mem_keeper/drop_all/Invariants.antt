use Rattle.std.proofs.Common.{◌≡◌, ℕ, List, take, None, if◌then◌else◌}
use Rattle.std.specs.List.{list_any}
use Rattle.gql_values3.specs.Texts.{same_text}
use Rattle.gql_ports.specs.Held.{value_at}
use Rattle.gql_ports.proofs.memory.mem_keeper.drop_all.Given as goal

-- those keys that were passed have no value, and the others keep theirs
abbrev pub invariant-loop-key : goal.invariant-loop-key
invariant-loop-key l = (key : List ℕ) → value_at l.records key ≡ (if list_any (same_text key) (take l.key-index l.drops) then None else value_at l.initial.records key)
