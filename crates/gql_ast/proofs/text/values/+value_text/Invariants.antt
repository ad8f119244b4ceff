use Rattle.std.proofs.Common.{◌≡◌, ◌+◌, ◌*◌, ◌++◌, drop, map}
use Rattle.gql_values3.specs.Datum.{data_of}
use Rattle.gql_values3.specs.Meaning.{datum_of}
use Rattle.gql_values3.specs.Nesting.{depth, depth_all}
use Rattle.gql_ast.specs.ValueText.{more_items_text}
use Rattle.gql_ast.proofs.text.values.+value_text.Given as goal

abbrev pub decreases-push_value : goal.decreases-push_value
decreases-push_value l = 3 * depth (datum_of l.value.now)

abbrev pub decreases-push_items : goal.decreases-push_items
decreases-push_items l = 3 * depth_all (map datum_of l.items.now) + 2

abbrev pub decreases-push_more_items : goal.decreases-push_more_items
decreases-push_more_items l = 3 * depth_all (map datum_of l.items.now) + 1

abbrev pub invariant-push_more_items-loop-i : goal.invariant-push_more_items-loop-i
invariant-push_more_items-loop-i l =
    l.text ++ more_items_text (data_of (map datum_of (drop l.i l.items))) ≡ l.fn.text ++ more_items_text (data_of (map datum_of l.items))
