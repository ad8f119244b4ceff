use Rattle.std.proofs.Common.{◌≡◌}
use Rattle.gql_change.proofs.PlaceLemmas.{place_from}
use Rattle.gql_change.proofs.storing.label_place.Given as goal

abbrev pub invariant-loop-i : goal.invariant-loop-i
invariant-loop-i l = place_from (λ t. t) l.label l.labels l.i ≡ place_from (λ t. t) l.label l.labels 0
