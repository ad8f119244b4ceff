use Rattle.gql_rowcode.specs.Machinery.Noted.{noted_of}
use Rattle.gql_rowcode.proofs.WalkLemmas.{AreRead}
use Rattle.gql_rowcode.proofs.reading.walk.Given as goal

abbrev pub invariant-loop-place : goal.invariant-loop-place
invariant-loop-place l = AreRead l.records l.place l.last (noted_of l.seen)
