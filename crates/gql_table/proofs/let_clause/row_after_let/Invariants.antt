use Rattle.std.proofs.Common.{◌≡◌, drop}
use Rattle.gql_table.specs.Machinery.Preparations.{row_with}
use Rattle.gql_table.proofs.let_clause.row_after_let.Given as goal

abbrev pub invariant-loop-i : goal.invariant-loop-i
invariant-loop-i g l = row_with (g.V.View.graph l.view) (drop l.i l.items) l.longer ≡ row_with (g.V.View.graph l.view) l.items l.fn.row
