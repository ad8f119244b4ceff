use Rattle.std.proofs.Common.{◌≡◌, take}
use Rattle.gql_keep_sql.specs.Keys.{keys_of}
use Rattle.gql_keep_sql.proofs.keys.copies.Given as goal

-- the keys so far are those of the records so far
abbrev pub invariant-loop-record : goal.invariant-loop-record
invariant-loop-record l = l.keys.items ≡ keys_of (take l.record-index l.records)
