use Rattle.std.proofs.Common.{◌≡◌, map, drop}
use Rattle.gql_ast.specs.Scope.{entry_of}
use Rattle.gql_eval.specs.Machinery.ScopeMeaning.{item_entry}
use Rattle.gql_eval.proofs.scope.item_of.Given as goal

abbrev pub invariant-loop-i : goal.invariant-loop-i
invariant-loop-i l = entry_of (map item_entry (drop l.i l.items)) l.name ≡ entry_of (map item_entry l.items) l.name
