use Rattle.std.proofs.Common.{◌≡◌, ◌+◌, ◌*◌, ◌++◌, map, take}
use Rattle.std.specs.List.{flat_map, AllByRecursion}
use Rattle.gql_values3.specs.Nesting.{depth, depth_all}
use Rattle.gql_values3.specs.Meaning.{datum_of}
use Rattle.gql_fields.specs.Spelling.{value_spelled}
use Rattle.gql_fields.specs.Kept.{IsKeptValue}
use Rattle.gql_fields.proofs.value_writing.+put.Given as goal

abbrev pub decreases-put_value : goal.decreases-put_value
decreases-put_value l = 3 * depth (datum_of l.value.now) + 1

abbrev pub decreases-put_list : goal.decreases-put_list
decreases-put_list l = 3 * depth_all l.items.now + 3

abbrev pub decreases-put_items : goal.decreases-put_items
decreases-put_items l = 3 * depth_all (map datum_of l.items.now) + 2

abbrev pub invariant-put_items-loop-i : goal.invariant-put_items-loop-i
invariant-put_items-loop-i l = record {
  written : l.out ≡ l.initial.out ++ flat_map (λ v. value_spelled (datum_of v)) (take l.i l.items);
  kept : AllByRecursion (λ v. IsKeptValue (datum_of v)) (take l.i l.items);
}
