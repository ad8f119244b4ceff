use Rattle.std.proofs.Common.{◌++◌, ◌∷◌, [], ◌+◌, ◌∙◌, List, ℕ, map, drop, sym, ap, append_assoc, append-nil}
use Rattle.gql_values3.specs.Lookup.{touching_edges}
use Rattle.gql_values3.specs.declared.element.EdgeId.{EdgeId}
use Rattle.gql_change.proofs.ListSteps.{item_here, no_item_here, few_touch, none_behind}
use Rattle.gql_change.proofs.deleted_numbers.add_touching.Goals as goal

pub returns-in-None : goal.returns-in-None
returns-in-None g c =
    let edges = touching_edges (g.V.View.graph c.args.view.now) (record { 0 = c.args.node }) in
    sym (append-nil c.loop-i.edges.items) ∙ ap (λ (l : List EdgeId). c.loop-i.edges.items ++ map (λ (e : EdgeId). e.0) l) (sym (no_item_here edges c.loop-i.i c.in-None.ensures)) ∙ c.loop-i.invariant

pub loop-i-preserved : goal.loop-i-preserved
loop-i-preserved g c =
    let edges = touching_edges (g.V.View.graph c.args.view.now) (record { 0 = c.args.node }) in
    let numbers : List EdgeId → List ℕ = map (λ (e : EdgeId). e.0) in
    ap (λ (l : List ℕ). l ++ numbers (drop (c.loop-i.i + 1) edges)) c.in_ok-push-in-Some.ensures.items ∙ append_assoc c.loop-i.edges.items (c.in-Some.edge.0 ∷ []) (numbers (drop (c.loop-i.i + 1) edges))
    ∙ ap (λ (l : List EdgeId). c.loop-i.edges.items ++ numbers l) (sym (item_here edges c.loop-i.i c.in-Some.edge c.in-Some.ensures)) ∙ c.loop-i.invariant

pub returns : goal.returns
returns g c =
    let graph = g.V.View.graph c.args.view.now in
    let edges = touching_edges graph (record { 0 = c.args.node }) in
    sym (append-nil c.loop-i.edges.items)
    ∙ ap (λ (l : List EdgeId). c.loop-i.edges.items ++ map (λ (e : EdgeId). e.0) l)
    (sym (none_behind edges c.loop-i.i (few_touch graph (record { 0 = c.args.node }) c.node_count-count.ensures.graph) c.loop-i-test.false)) ∙ c.loop-i.invariant
