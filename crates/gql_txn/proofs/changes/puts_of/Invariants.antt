use Rattle.std.proofs.Common.{◌≡◌, not, take}
use Rattle.std.specs.Prelude.{filter}
use Rattle.gql_ports.specs.declared.stored.Record.{Record}
use Rattle.gql_txn.specs.Machinery.Changes.{has_record}
use Rattle.gql_txn.proofs.changes.puts_of.Given as goal

abbrev pub invariant-loop-place : goal.invariant-loop-place
invariant-loop-place l = l.puts.items ≡ filter (λ (r : Record). not (has_record l.before r)) (take l.place l.after)
