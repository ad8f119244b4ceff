use Rattle.std.proofs.Common.{◌≡◌, take}
use Rattle.gql_ports.proofs.records.copy_all.Given as goal

abbrev pub invariant-loop-record : goal.invariant-loop-record
invariant-loop-record l = l.copy.items ≡ take l.record-index l.items
