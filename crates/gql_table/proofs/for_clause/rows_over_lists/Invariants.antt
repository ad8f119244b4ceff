use Rattle.std.proofs.Common.{◌≡◌, ◌++◌, List, length, Ok}
use Rattle.std.specs.Vec.Iter.{into_iter_items, into_iter_len}
use Rattle.gql_values3.specs.Datum.{Datum}
use Rattle.gql_eval.specs.Machinery.Next.{next}
use Rattle.gql_eval.specs.RowLists.{each_some}
use Rattle.gql_table.specs.For.{rows_over}
use Rattle.gql_table.specs.Machinery.Preparations.{prepared_value}
use Rattle.gql_table.proofs.for_clause.rows_over_lists.Given as goal

abbrev pub invariant-loop-row : goal.invariant-loop-row
invariant-loop-row g l = record {
  whole : next (each_some (λ (row : List Datum). next (prepared_value (g.V.View.graph l.view) l.list row) (rows_over l.clause row)) (into_iter_items l.row-iterator)) (λ rows. Ok (l.done ++ rows))
      ≡ each_some (λ (row : List Datum). next (prepared_value (g.V.View.graph l.view) l.list row) (rows_over l.clause row)) l.fn.rows;
  counted : into_iter_len l.row-iterator ≡ length (into_iter_items l.row-iterator);
}
