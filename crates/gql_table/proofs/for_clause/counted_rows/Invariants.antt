use Rattle.std.proofs.Common.{◌≡◌, ◌++◌, ◌+◌, ◌-◌, ◌≤◌, map, length, Ok, Some}
use Rattle.std.specs.Vec.Iter.{into_iter_items, into_iter_len}
use Rattle.gql_values3.specs.Meaning.{datum_of}
use Rattle.gql_eval.specs.Machinery.Next.{next}
use Rattle.gql_table.specs.For.{item_rows, first_count}
use Rattle.gql_table.proofs.for_clause.counted_rows.Given as goal

abbrev pub invariant-loop-item : goal.invariant-loop-item
invariant-loop-item l = record {
  whole : next (item_rows (Some l.counter) (l.first + (l.all - l.left)) l.row (map datum_of (into_iter_items l.item-iterator))) (λ rows. Ok (l.rows ++ rows))
      ≡ item_rows (Some l.counter) (first_count l.counter.0) l.row l.fn.items;
  counted : into_iter_len l.item-iterator ≡ length (into_iter_items l.item-iterator);
  left : l.left ≡ length (into_iter_items l.item-iterator);
  within : l.left ≤ l.all;
}
