use Rattle.std.proofs.Common.{◌+◌, ◌∙◌, Bool, not, cond, Some, drop, sym, ap}
use Rattle.std.specs.Prelude.{find}
use Rattle.gql_values3.specs.Lookup.{touching_edges}
use Rattle.gql_values3.specs.declared.element.EdgeId.{EdgeId}
use Rattle.gql_change.specs.Machinery.DeletionSteps.{has_number}
use Rattle.gql_change.proofs.ListSteps.{item_here, no_item_here, few_touch, none_behind}
use Rattle.gql_change.proofs.leftover.other_edge.Goals as goal

pub returns-then-not-has_number : goal.returns-then-not-has_number
returns-then-not-has_number g c =
    let edges = touching_edges (g.V.View.graph c.args.view.now) (record { 0 = c.args.node }) in
    let other : EdgeId → Bool = λ (e : EdgeId). not (has_number c.args.edges.now e.0) in
    ap (λ (b : Bool). cond (not b) (Some c.in-Some.edge) (find other (drop (c.loop-i.i + 1) edges))) c.if-not-has_number.ensures ∙ ap (find other) (sym (item_here edges c.loop-i.i c.in-Some.edge c.in-Some.ensures)) ∙ c.loop-i.invariant

pub returns-in-None : goal.returns-in-None
returns-in-None g c =
    let edges = touching_edges (g.V.View.graph c.args.view.now) (record { 0 = c.args.node }) in
    let other : EdgeId → Bool = λ (e : EdgeId). not (has_number c.args.edges.now e.0) in
    ap (find other) (sym (no_item_here edges c.loop-i.i c.in-None.ensures)) ∙ c.loop-i.invariant

pub loop-i-preserved : goal.loop-i-preserved
loop-i-preserved g c =
    let edges = touching_edges (g.V.View.graph c.args.view.now) (record { 0 = c.args.node }) in
    let other : EdgeId → Bool = λ (e : EdgeId). not (has_number c.args.edges.now e.0) in
    ap (λ (b : Bool). cond (not b) (Some c.in-Some.edge) (find other (drop (c.loop-i.i + 1) edges))) c.if-not-has_number.ensures ∙ ap (find other) (sym (item_here edges c.loop-i.i c.in-Some.edge c.in-Some.ensures)) ∙ c.loop-i.invariant

pub returns : goal.returns
returns g c =
    let graph = g.V.View.graph c.args.view.now in
    let edges = touching_edges graph (record { 0 = c.args.node }) in
    let other : EdgeId → Bool = λ (e : EdgeId). not (has_number c.args.edges.now e.0) in
    ap (find other) (sym (none_behind edges c.loop-i.i (few_touch graph (record { 0 = c.args.node }) c.node_count-count.ensures.graph) c.loop-i-test.false)) ∙ c.loop-i.invariant
