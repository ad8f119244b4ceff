use Rattle.std.proofs.Common.{◌≡◌, drop}
use Rattle.gql_eval.proofs.HeadingLemmas.{placed}
use Rattle.gql_eval.proofs.places.place_of.Given as goal

abbrev pub invariant-loop-i : goal.invariant-loop-i
invariant-loop-i l = placed l.i (drop l.i l.columns) l.name ≡ placed 0 l.columns l.name
