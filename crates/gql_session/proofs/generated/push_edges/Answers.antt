use Rattle.std.proofs.Common.{◌∙◌, ◌+◌, ◌%◌, ◌++◌, ap}
use Rattle.gql_session.specs.GeneratedText.{edge_text}
use Rattle.gql_session.specs.Machinery.Listing.{behind_comma}
use Rattle.gql_session.proofs.ListingLemmas.{edge_more}
use Rattle.gql_session.proofs.generated.push_edges.Goals as goal

pub loop-i-preserved : goal.loop-i-preserved
loop-i-preserved c =
    let i = c.loop-i.i in
    let n = c.args.n in
    c.in_ok-push_edge-2.ensures ∙ ap (λ t. t ++ behind_comma (edge_text i ((i + 10) % n))) (c.in_ok-push_edge.ensures ∙ ap (λ t. t ++ behind_comma (edge_text i ((i + 1) % n))) c.loop-i.invariant)
    ∙ edge_more c.args.text.now n i
