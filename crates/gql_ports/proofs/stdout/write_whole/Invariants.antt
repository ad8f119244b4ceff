use Rattle.std.proofs.Common.{◌≡◌, [], length}
use Rattle.gql_ports.proofs.stdout.write_whole.Given as goal

-- of no bytes none are left
abbrev pub invariant-loop-rest : goal.invariant-loop-rest
invariant-loop-rest g l = l.bytes ≡ [] → l.rest ≡ []

abbrev pub decreases-loop-rest : goal.decreases-loop-rest
decreases-loop-rest g l = length l.rest
