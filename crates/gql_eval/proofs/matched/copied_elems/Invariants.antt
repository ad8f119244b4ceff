use Rattle.std.proofs.Common.{◌≡◌, take}
use Rattle.gql_eval.proofs.matched.copied_elems.Given as goal

abbrev pub invariant-loop-i : goal.invariant-loop-i
invariant-loop-i l = l.copy ≡ take l.i l.elems
