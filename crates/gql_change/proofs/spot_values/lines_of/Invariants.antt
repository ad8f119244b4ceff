use Rattle.std.proofs.Common.{◌≡◌, ◌++◌, length, Ok}
use Rattle.std.specs.Vec.Iter.{into_iter_items, into_iter_len}
use Rattle.gql_ast.specs.Faults.{each}
use Rattle.gql_eval.specs.Machinery.Next.{next}
use Rattle.gql_change.specs.Machinery.PreparedSpots.{line_in}
use Rattle.gql_change.proofs.spot_values.lines_of.Given as goal

abbrev pub invariant-loop-row : goal.invariant-loop-row
invariant-loop-row g l = record {
  whole : next (each (line_in l.spots (g.V.View.graph l.view)) (into_iter_items l.row-iterator)) (λ ls. Ok (l.lines ++ ls))
      ≡ each (line_in l.spots (g.V.View.graph l.view)) l.fn.rows;
  counted : into_iter_len l.row-iterator ≡ length (into_iter_items l.row-iterator);
}
