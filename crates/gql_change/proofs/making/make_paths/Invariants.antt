use Rattle.std.proofs.Common.{◌≡◌, drop}
use Rattle.gql_change.specs.Machinery.InsertByPlaces.{insert_paths}
use Rattle.gql_change.proofs.making.make_paths.Given as goal

abbrev pub invariant-loop-i : goal.invariant-loop-i
invariant-loop-i l = insert_paths (drop l.i l.paths) l.state ≡ insert_paths l.paths l.fn.state
