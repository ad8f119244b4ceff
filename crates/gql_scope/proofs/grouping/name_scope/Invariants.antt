use Rattle.std.proofs.Common.{◌≡◌, take}
use Rattle.gql_expr_checks.specs.Machinery.Seen.{names_of}
use Rattle.gql_scope.proofs.grouping.name_scope.Given as goal

abbrev pub invariant-loop-name : goal.invariant-loop-name
invariant-loop-name l = names_of l.named ≡ take l.name-index l.names
