-- The code's names as it gathers them, seen as plain data.
use Rattle.gql_scope.specs.Machinery.Gathering.{Gathered}
use Rattle.gql_scope.specs.declared.match_columns.Found.{Found}

abbrev pub found_data : Found → Gathered
found_data f = record { names = f.names; groups = f.groups }
