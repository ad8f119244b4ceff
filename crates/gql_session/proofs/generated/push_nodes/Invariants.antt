use Rattle.std.proofs.Common.{◌≡◌, ◌++◌}
use Rattle.gql_session.proofs.ListingLemmas.{nodes_below}
use Rattle.gql_session.proofs.generated.push_nodes.Given as goal

abbrev pub invariant-loop-i : goal.invariant-loop-i
invariant-loop-i l = l.text ≡ l.fn.text ++ nodes_below l.i
