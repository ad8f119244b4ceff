use Rattle.std.proofs.Common.{◌≡◌, ℕ, List, map, take}
use Rattle.gql_values3.specs.declared.table.ColumnKind.{ColumnKind}
use Rattle.gql_ast.specs.Tree.{name}
use Rattle.gql_ast.specs.Meaning.{tree_of}
use Rattle.gql_table.proofs.grouped.column_names.Given as goal

abbrev pub invariant-loop-i : goal.invariant-loop-i
invariant-loop-i l = map tree_of l.names.items ≡ map (λ (c : List ℕ × ColumnKind). name c.0) (take l.i l.columns)
