use Rattle.std.proofs.Common.{◌≡◌, not, map, take}
use Rattle.std.specs.Prelude.{filter}
use Rattle.gql_ports.specs.declared.stored.Record.{Record}
use Rattle.gql_txn.specs.Machinery.Changes.{has_key}
use Rattle.gql_txn.proofs.changes.drops_of.Given as goal

abbrev pub invariant-loop-place : goal.invariant-loop-place
invariant-loop-place l = l.drops.items ≡ map (λ (r : Record). r.key) (filter (λ (r : Record). not (has_key l.after r)) (take l.place l.before))
