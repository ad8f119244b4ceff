use Rattle.std.proofs.Common.{◌≡◌, map, vec_len}
use Rattle.gql_change.specs.Machinery.Roles.{pair_of}
use Rattle.gql_change.specs.Storing.{property_set}
use Rattle.gql_change.proofs.FillingLemmas.{put_among}
use Rattle.gql_change.proofs.filling.property_set.Given as goal

abbrev pub invariant-loop-name : goal.invariant-loop-name
invariant-loop-name l = put_among (map pair_of l.left.items) (map pair_of l.set.items) ≡ property_set l.fn.given

abbrev pub decreases-loop-name : goal.decreases-loop-name
decreases-loop-name l = vec_len l.left
