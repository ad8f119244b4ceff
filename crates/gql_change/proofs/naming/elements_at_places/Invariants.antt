use Rattle.std.proofs.Common.{◌≡◌, take}
use Rattle.std.specs.List.{flat_map}
use Rattle.gql_change.specs.Machinery.DeletionSteps.{row_elements}
use Rattle.gql_change.proofs.naming.elements_at_places.Given as goal

abbrev pub invariant-loop-row : goal.invariant-loop-row
invariant-loop-row l = l.elems.items ≡ flat_map (row_elements l.places) (take l.row-index l.rows)
