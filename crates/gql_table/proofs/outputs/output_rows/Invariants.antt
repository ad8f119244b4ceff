use Rattle.std.proofs.Common.{◌≡◌, ◌++◌, [], length, take, drop, Ok}
use Rattle.gql_ast.specs.Faults.{each}
use Rattle.gql_eval.specs.Machinery.Next.{next}
use Rattle.gql_table.specs.Machinery.Preparations.{values_of}
use Rattle.gql_table.proofs.outputs.output_rows.Given as goal

abbrev pub invariant-loop-i : goal.invariant-loop-i
invariant-loop-i g l = record {
  whole : next (each (values_of (g.V.View.graph l.view) l.items) (drop l.i l.all.items)) (λ rows. Ok (take l.i l.all.items ++ rows))
      ≡ each (values_of (g.V.View.graph l.view) l.items) l.fn.rows;
  same : length l.all.items ≡ length l.fn.rows;
  empty : l.room ≡ [];
}
