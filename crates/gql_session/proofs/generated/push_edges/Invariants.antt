use Rattle.std.proofs.Common.{◌≡◌, ◌++◌}
use Rattle.gql_session.proofs.ListingLemmas.{edges_below}
use Rattle.gql_session.proofs.generated.push_edges.Given as goal

abbrev pub invariant-loop-i : goal.invariant-loop-i
invariant-loop-i l = l.text ≡ l.fn.text ++ edges_below l.n l.i
