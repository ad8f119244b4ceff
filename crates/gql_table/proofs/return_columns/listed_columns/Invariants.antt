use Rattle.std.proofs.Common.{◌≡◌, take, map}
use Rattle.gql_ast.specs.Outputs.{item_column}
use Rattle.gql_table.proofs.return_columns.listed_columns.Given as goal

abbrev pub invariant-loop-i : goal.invariant-loop-i
invariant-loop-i l = l.all ≡ map (item_column l.columns) (take l.i l.items)
