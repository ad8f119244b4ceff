use Rattle.std.proofs.Common.{◌≡◌, ℕ, List, drop}
use Rattle.std.specs.HashMap.{get_by_text}
use Rattle.gql_eval.proofs.HeadingLemmas.{placed}
use Rattle.gql_eval.proofs.heading.places_of.Given as goal

abbrev pub invariant-loop-i : goal.invariant-loop-i
invariant-loop-i l = (x : List ℕ) → get_by_text l.places x ≡ placed l.i (drop l.i l.columns) x
