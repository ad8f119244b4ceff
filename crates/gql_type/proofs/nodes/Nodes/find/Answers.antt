use Rattle.std.proofs.Common.{eqb-true, sym, ◌∙◌}
use Rattle.gql_values3.specs.declared.records.NodeRecord.{NodeRecord}
use Rattle.gql_graph.proofs.NumberLemmas.{ascends}
use Rattle.gql_type.proofs.NumberLemmas.{node_at_place}
use Rattle.gql_type.proofs.nodes.Nodes.find.Goals as goal

pub returns-in-Some : goal.returns-in-Some
returns-in-Some c =
    let r = c.in-Some.record.now in
    let same = eqb-true r.number.0 c.args.node.0 (sym c.eq.ensures ∙ c.if-eq.true) in
    rw (← c.self.view_is) (node_at_place c.self.inside.records.now c.saturating_sub.result r c.args.node c.self.invariant c.in-Some.ensures.lookup.3.0 c.in-Some.ensures.lookup.1 same)

pub find_node-requires : goal.find_node-requires
find_node-requires c = ascends (λ (r : NodeRecord). r.number.0) c.self.inside.records.now 0 c.self.invariant.0 c.self.invariant.1
