use Rattle.std.proofs.Common.{take}
use Rattle.indexmap.specs.IndexMap.{get_by_text}
use Rattle.gql_expr_checks.specs.Machinery.Knowing.{Knows}
use Rattle.gql_expr_checks.proofs.columns.kinds_of.Given as goal

abbrev pub invariant-loop-i : goal.invariant-loop-i
invariant-loop-i l = Knows (get_by_text l.kinds) (take l.i l.columns)
