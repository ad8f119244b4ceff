use Rattle.std.proofs.Common.{◌≡◌, ◌++◌, ◌≤◌, length, take, drop, Ok}
use Rattle.gql_eval.specs.Machinery.Next.{next}
use Rattle.gql_table.specs.Filter.{filter_rows}
use Rattle.gql_table.proofs.filter.rows_where.Given as goal

abbrev pub invariant-loop-i : goal.invariant-loop-i
invariant-loop-i g l = record {
  whole : next (filter_rows (g.V.View.graph l.view) l.condition.params l.condition.columns l.condition.tree (drop l.i l.left.items)) (λ rows. Ok (take l.kept l.left.items ++ rows))
      ≡ filter_rows (g.V.View.graph l.view) l.condition.params l.condition.columns l.condition.tree l.fn.rows;
  within : l.kept ≤ l.i;
  same : length l.left.items ≡ length l.fn.rows;
}
