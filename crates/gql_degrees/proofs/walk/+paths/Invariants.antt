use Rattle.std.proofs.Common.{length}
use Rattle.gql_degrees.proofs.walk.+paths.Given as goal

abbrev pub decreases-walked_paths : goal.decreases-walked_paths
decreases-walked_paths l = length l.paths.now
