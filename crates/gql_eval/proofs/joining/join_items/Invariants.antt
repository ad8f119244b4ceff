use Rattle.std.proofs.Common.{◌≡◌, ◌++◌, map, take}
use Rattle.gql_values3.specs.Meaning.{datum_of}
use Rattle.gql_eval.proofs.joining.join_items.Given as goal

abbrev pub invariant-loop-item : goal.invariant-loop-item
invariant-loop-item l = l.a ≡ l.fn.a ++ map datum_of (take l.item-index l.b)
