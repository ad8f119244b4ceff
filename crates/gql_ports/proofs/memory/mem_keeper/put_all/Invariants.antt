use Rattle.std.proofs.Common.{◌≡◌, ℕ, List, drop, if◌then◌else◌}
use Rattle.std.specs.Option.{is_some}
use Rattle.gql_ports.specs.Held.{value_at}
use Rattle.gql_ports.proofs.memory.mem_keeper.put_all.Given as goal

-- those that were passed, from the last on, are put
abbrev pub invariant-loop-i : goal.invariant-loop-i
invariant-loop-i l = (key : List ℕ) → value_at l.records key ≡ (if is_some (value_at (drop l.i l.puts) key) then value_at (drop l.i l.puts) key else value_at l.initial.records key)
