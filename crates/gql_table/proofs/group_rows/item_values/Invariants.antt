use Rattle.std.proofs.Common.{◌≡◌, ◌≤◌, ◌+◌, ◌++◌, map, drop, length, Ok}
use Rattle.gql_values3.specs.Meaning.{datum_of}
use Rattle.gql_eval.specs.Machinery.Next.{next}
use Rattle.gql_table.specs.Machinery.GroupPlan.{values_in_group, result_count}
use Rattle.gql_table.proofs.group_rows.item_values.Given as goal

abbrev pub invariant-loop-i : goal.invariant-loop-i
invariant-loop-i g l = record {
  whole : next (values_in_group (g.V.View.graph l.grouping.view.now) (drop l.i l.items) (drop l.key (map datum_of l.keys)) (drop l.from (map datum_of l.results))) (λ ds. Ok (l.values ++ ds))
      ≡ values_in_group (g.V.View.graph l.grouping.view.now) l.grouping.items.now (map datum_of l.keys) (map datum_of l.results);
  left : l.from + result_count (drop l.i l.items) ≡ length l.results;
  seen : l.key ≤ l.i;
}
