use Rattle.std.proofs.Common.{◌≡◌, length}
use Rattle.gql_table.proofs.blank.blank_row.Given as goal

abbrev pub invariant-loop-i : goal.invariant-loop-i
invariant-loop-i l = length l.row ≡ l._i
