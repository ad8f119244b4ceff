use Rattle.std.proofs.Common.{◌≡◌, ◌∷◌, ◌++◌, [], ◌<◌, ◌+◌, ◌-◌, map, reverse, drop, length, get_or, sym, ap, ◌∙◌, arith}
use Rattle.gql_change.specs.Machinery.DeletionSteps.{edge_out}
use Rattle.gql_change.proofs.ListSteps.{number_back}
use Rattle.gql_change.proofs.deletion.edges_out.Goals as goal

pub loop-i-preserved : goal.loop-i-preserved
loop-i-preserved c =
    let at = c.loop-i.i - 1 in
    let below : at < length c.args.edges.now = omega arith in
    let next : at + 1 ≡ c.loop-i.i = omega arith in
    let before : c.loop-i.changes ≡ map edge_out (reverse (drop (at + 1) c.args.edges.now)) = c.loop-i.invariant ∙ ap (λ i. map edge_out (reverse (drop i c.args.edges.now))) (sym next) in
    c.in_ok-push.ensures.ok ∙ ap (λ l. l ++ edge_out (get_or c.args.edges.now at 0) ∷ []) before ∙ sym (number_back edge_out c.args.edges.now at below)
