use Rattle.std.proofs.Common.{◌≡◌, ◌++◌, map, length, Ok}
use Rattle.std.specs.Vec.Iter.{into_iter_items, into_iter_len}
use Rattle.gql_ast.specs.Faults.{each}
use Rattle.gql_eval.specs.Machinery.Next.{next}
use Rattle.gql_table.specs.Machinery.Preparations.{keyed_by}
use Rattle.gql_table.specs.Machinery.Width.{seen}
use Rattle.gql_table.proofs.ordering.keyed_rows.Given as goal

abbrev pub invariant-loop-row : goal.invariant-loop-row
invariant-loop-row g l = record {
  whole : next (each (keyed_by (g.V.View.graph l.view) l.keys) (map (seen l.width) (into_iter_items l.row-iterator))) (λ ks. Ok (l.done.items ++ ks))
      ≡ each (keyed_by (g.V.View.graph l.view) l.keys) (map (seen l.width) l.fn.rows);
  counted : into_iter_len l.row-iterator ≡ length (into_iter_items l.row-iterator);
}
