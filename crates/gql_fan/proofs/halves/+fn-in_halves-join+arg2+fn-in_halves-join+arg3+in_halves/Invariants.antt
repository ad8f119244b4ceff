use Rattle.std.proofs.Common.{◌+◌, ◌*◌}
use Rattle.gql_fan.proofs.halves.+fn-in_halves-join+arg2+fn-in_halves-join+arg3+in_halves.Given as goal

abbrev pub decreases-join+arg2 : goal.decreases-join+arg2
decreases-join+arg2 g l = 2 * l.few + 1

abbrev pub decreases-join+arg3 : goal.decreases-join+arg3
decreases-join+arg3 g l = 2 * l.rest + 1

abbrev pub decreases-in_halves : goal.decreases-in_halves
decreases-in_halves g l = 2 * l.workers
