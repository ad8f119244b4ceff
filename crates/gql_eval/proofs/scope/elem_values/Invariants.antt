use Rattle.std.proofs.Common.{◌≡◌, map, take}
use Rattle.gql_eval.specs.Bound.{elem_datum}
use Rattle.gql_eval.proofs.scope.elem_values.Given as goal

abbrev pub invariant-loop-elem : goal.invariant-loop-elem
invariant-loop-elem l = l.items ≡ map elem_datum (take l.elem-index l.elems)
