use Rattle.std.proofs.Common.{◌≡◌, map, take}
use Rattle.gql_ast.specs.Meaning.{tree_of}
use Rattle.gql_ast.specs.declared.projection.ReturnItem.{ReturnItem}
use Rattle.gql_table.specs.Machinery.Preparations.{prepared_under}
use Rattle.gql_table.proofs.prepared.prepare_items.Given as goal

abbrev pub invariant-loop-i : goal.invariant-loop-i
invariant-loop-i l = l.all.items ≡ map (prepared_under l.columns l.params) (map (λ (i : ReturnItem). tree_of i.value) (take l.i l.items))
