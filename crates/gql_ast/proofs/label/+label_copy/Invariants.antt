use Rattle.std.proofs.Common.{◌≡◌, map, take}
use Rattle.gql_ast.specs.LabelMeaning.{label_of}
use Rattle.gql_ast.proofs.label.+label_copy.Given as goal

abbrev pub invariant-LabelList::try_copy-loop-item : goal.invariant-LabelList::try_copy-loop-item
invariant-LabelList::try_copy-loop-item l = map label_of l.items.items ≡ map label_of (take l.item-index l.item-items)
