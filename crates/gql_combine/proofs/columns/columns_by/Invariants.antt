use Rattle.std.proofs.Common.{◌≡◌, map, drop, flat_map}
use Rattle.gql_norm.specs.NewColumns.{columns_by, degree_in_paths}
use Rattle.gql_norm.specs.NormalData.{path_data}
use Rattle.gql_norm.specs.Machinery.ColumnGrowth.{with_columns}
use Rattle.gql_combine.proofs.columns.columns_by.Given as goal

abbrev pub invariant-loop-i : goal.invariant-loop-i
invariant-loop-i l =
    with_columns l.known (flat_map (columns_by (degree_in_paths (map path_data l.paths))) (map path_data (drop l.i l.paths)))
    ≡ with_columns l.columns (flat_map (columns_by (degree_in_paths (map path_data l.paths))) (map path_data l.paths))
