use Rattle.std.proofs.Common.{◌≡◌}
use Rattle.gql_eval.specs.Machinery.Compiled.{constants_of}
use Rattle.gql_eval.proofs.ConstantLemmas.{known_behind}
use Rattle.gql_ast.proofs.PartLemmas.{parts_from}
use Rattle.gql_eval.proofs.constants.constants.Given as goal

abbrev pub invariant-loop-i : goal.invariant-loop-i
invariant-loop-i l = known_behind l.items (constants_of l.params (parts_from l.parts l.i)) ≡ constants_of l.params (parts_from l.parts 0)
