use Rattle.std.proofs.Common.{◌≡◌, ◌∷◌, map, take}
use Rattle.gql_eval.specs.Machinery.ScopeMeaning.{item_entry}
use Rattle.gql_eval.proofs.scope.with_front.Given as goal

abbrev pub invariant-loop-i : goal.invariant-loop-i
invariant-loop-i l = map item_entry l.all.items ≡ item_entry l.fn.item ∷ map item_entry (take l.i l.items)
