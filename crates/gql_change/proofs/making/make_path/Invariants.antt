use Rattle.std.proofs.Common.{◌≡◌, drop, Ok}
use Rattle.gql_change.specs.Insertion.{◌>>>◌}
use Rattle.gql_change.specs.Machinery.InsertByPlaces.{insert_path, insert_steps}
use Rattle.gql_change.proofs.making.make_path.Given as goal

abbrev pub invariant-loop-i : goal.invariant-loop-i
invariant-loop-i l = (insert_steps (drop l.i l.steps) (l.state, l.at) >>> λ at. Ok at.0) ≡ insert_path l.path l.fn.state
