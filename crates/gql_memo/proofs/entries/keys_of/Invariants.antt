use Rattle.std.proofs.Common.{◌≡◌, take}
use Rattle.gql_memo.specs.Machinery.TableKeys.{keys_data}
use Rattle.gql_memo.specs.Machinery.TableParts.{keeps_in}
use Rattle.gql_memo.proofs.entries.keys_of.Given as goal

abbrev pub invariant-loop-i : goal.invariant-loop-i
invariant-loop-i l = keys_data l.keys.keys ≡ keeps_in (take l.i l.entries)
