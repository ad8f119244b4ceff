use Rattle.std.proofs.Common.{◌≡◌, map, length}
use Rattle.std.specs.Vec.Iter.{into_iter_items, into_iter_len}
use Rattle.gql_table.specs.Machinery.Running.{first_stood, stood_behind, stood_keys}
use Rattle.gql_table.specs.Machinery.GroupMeaning.{group_meant}
use Rattle.gql_table.specs.Machinery.RowKeys.{HasKeys}
use Rattle.gql_table.proofs.groups.groups_of_rows.Given as goal

abbrev pub invariant-loop-row : goal.invariant-loop-row
invariant-loop-row g l = record {
  whole : stood_behind (g.V.View.graph l.grouping.view.now) (map group_meant l.groups.items) l.grouping.items.now (into_iter_items l.row-iterator)
      ≡ stood_behind (g.V.View.graph l.grouping.view.now) (first_stood l.grouping.items.now) l.grouping.items.now l.fn.rows;
  keys : HasKeys l.seen (stood_keys (map group_meant l.groups.items));
  counted : into_iter_len l.row-iterator ≡ length (into_iter_items l.row-iterator);
}
