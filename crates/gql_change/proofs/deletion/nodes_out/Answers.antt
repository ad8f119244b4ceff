use Rattle.std.proofs.Common.{◌≡◌, ◌∷◌, ◌++◌, [], ◌<◌, ◌+◌, ◌-◌, map, reverse, drop, length, get_or, sym, ap, ◌∙◌, arith}
use Rattle.gql_change.specs.Machinery.DeletionSteps.{node_out}
use Rattle.gql_change.proofs.ListSteps.{number_back}
use Rattle.gql_change.proofs.deletion.nodes_out.Goals as goal

pub loop-i-preserved : goal.loop-i-preserved
loop-i-preserved c =
    let at = c.loop-i.i - 1 in
    let below : at < length c.args.nodes.now = omega arith in
    let next : at + 1 ≡ c.loop-i.i = omega arith in
    let before : c.loop-i.changes ≡ map node_out (reverse (drop (at + 1) c.args.nodes.now)) = c.loop-i.invariant ∙ ap (λ i. map node_out (reverse (drop i c.args.nodes.now))) (sym next) in
    c.in_ok-push.ensures.ok ∙ ap (λ l. l ++ node_out (get_or c.args.nodes.now at 0) ∷ []) before ∙ sym (number_back node_out c.args.nodes.now at below)
