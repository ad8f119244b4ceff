use Rattle.std.proofs.Common.{◌≡◌, drop}
use Rattle.gql_txn.specs.Machinery.Same.{same_texts}
use Rattle.gql_txn.proofs.same.same_texts.Given as goal

abbrev pub invariant-loop-i : goal.invariant-loop-i
invariant-loop-i l = same_texts (drop l.i l.some) (drop l.i l.others) ≡ same_texts l.some l.others
