use Rattle.std.proofs.Common.{take}
use Rattle.std.specs.List.{AllZip}
use Rattle.gql_keep_sql.specs.Fetched.{HasRecord}
use Rattle.gql_keep_sql.proofs.store.records_of.Given as goal

-- the records so far are those of the rows so far
abbrev pub invariant-loop-row : goal.invariant-loop-row
invariant-loop-row l = AllZip HasRecord (take l.row-index l.rows) l.records.items
