use Rattle.std.proofs.Common.{◌∙◌, ◌++◌, ap, codes}
use Rattle.gql_session.proofs.ListingLemmas.{nodes_below, edges_below, whole_insert}
use Rattle.gql_session.proofs.generated.push_insert.Goals as goal

pub returns : goal.returns
returns c =
    let n = c.args.n in
    c.in_ok-push_str-2.ensures.ok
    ∙ ap (λ t. t ++ codes ";\n") (c.in_ok-push_edges.ensures ∙ ap (λ t. t ++ edges_below n n) (c.in_ok-push_nodes.ensures ∙ ap (λ t. t ++ nodes_below n) c.in_ok-push_str.ensures.ok))
    ∙ whole_insert c.args.text.now (codes "INSERT ") (codes ";\n") n
