use Rattle.std.proofs.Common.{◌≡◌, map, drop, None}
use Rattle.gql_norm.specs.NormalData.{path_data}
use Rattle.gql_degrees.specs.Machinery.JoinData.{at_fault}
use Rattle.gql_degrees.specs.Machinery.JoinWalk.{first_among, place_of_fault}
use Rattle.gql_degrees.proofs.joins.first_among.Given as goal

abbrev pub invariant-loop-i : goal.invariant-loop-i
invariant-loop-i l =
    first_among (place_of_fault (at_fault l.join) l.columns (map path_data l.paths)) l.best (drop l.i l.names)
    ≡ first_among (place_of_fault (at_fault l.join) l.columns (map path_data l.paths)) None l.names
