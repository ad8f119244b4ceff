use Rattle.std.proofs.Common.{◌∙◌, ◌++◌, ap}
use Rattle.gql_session.specs.GeneratedText.{node_text}
use Rattle.gql_session.specs.Machinery.Listing.{comma_before}
use Rattle.gql_session.proofs.ListingLemmas.{node_more}
use Rattle.gql_session.proofs.generated.push_nodes.Goals as goal

pub loop-i-preserved : goal.loop-i-preserved
loop-i-preserved c =
    let i = c.loop-i.i in
    c.in_ok-push_node.ensures ∙ ap (λ t. t ++ node_text i) (c.in_ok-push_comma_before.ensures ∙ ap (λ t. t ++ comma_before i) c.loop-i.invariant) ∙ node_more c.args.text.now i
