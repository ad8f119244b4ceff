use Rattle.std.proofs.Common.{◌≡◌, map, take}
use Rattle.gql_change.specs.Machinery.DeletionSteps.{column_place}
use Rattle.gql_change.proofs.naming.column_places.Given as goal

abbrev pub invariant-loop-name : goal.invariant-loop-name
invariant-loop-name l = l.places.items ≡ map (column_place l.columns) (take l.name-index l.names)
