use Rattle.std.proofs.Common.{◌≡◌, ◌++◌, length, take, drop, Ok}
use Rattle.gql_ast.specs.Faults.{each}
use Rattle.gql_eval.specs.Machinery.Next.{next}
use Rattle.gql_table.specs.Machinery.Preparations.{row_with}
use Rattle.gql_table.proofs.let_clause.rows_with.Given as goal

abbrev pub invariant-loop-i : goal.invariant-loop-i
invariant-loop-i g l = record {
  whole : next (each (row_with (g.V.View.graph l.view) l.items) (drop l.i l.all.items)) (λ rows. Ok (take l.i l.all.items ++ rows))
      ≡ each (row_with (g.V.View.graph l.view) l.items) l.fn.rows;
  same : length l.all.items ≡ length l.fn.rows;
}
