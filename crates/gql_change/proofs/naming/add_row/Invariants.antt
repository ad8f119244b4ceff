use Rattle.std.proofs.Common.{◌≡◌, ◌++◌, map, take}
use Rattle.gql_values3.specs.Meaning.{datum_of}
use Rattle.gql_change.specs.Machinery.DeletionSteps.{row_elements}
use Rattle.gql_change.proofs.naming.add_row.Given as goal

abbrev pub invariant-loop-i : goal.invariant-loop-i
invariant-loop-i l = l.elems.items ≡ l.initial.elems.items ++ row_elements (take l.i l.places) (map datum_of l.row)
