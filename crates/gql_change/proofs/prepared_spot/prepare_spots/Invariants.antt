use Rattle.std.proofs.Common.{◌≡◌, ◌++◌, map, drop}
use Rattle.gql_change.specs.Machinery.PreparedSpots.{asked_in, spot_in}
use Rattle.gql_change.specs.Machinery.Roles.{question_of}
use Rattle.gql_change.proofs.prepared_spot.prepare_spots.Given as goal

abbrev pub invariant-loop-i : goal.invariant-loop-i
invariant-loop-i l =
    map spot_in l.all.items ++ map (asked_in l.columns l.params) (map question_of (drop l.i l.asked)) ≡ map (asked_in l.columns l.params) (map question_of l.asked)
