use Rattle.std.proofs.Common.{◌+◌, List, map, take, sym, subst}
use Rattle.gql_ports.specs.declared.stored.Record.{Record}
use Rattle.gql_rowcode.specs.Records.{edge}
use Rattle.gql_rowcode.specs.Machinery.Writing.{SayAlso}
use Rattle.gql_rowcode.proofs.WritingLemmas.{say_more, edge_content}
use Rattle.gql_rowcode.proofs.writing.put_edges.Goals as goal

pub edge_record-requires-clause-properties : goal.edge_record-requires-clause-properties
edge_record-requires-clause-properties c =
    let within = rw c.edges-edges.ensures at c.loop-element-test.true in
    let found = rw c.edges-edges.ensures at c.element-item.is in
    (edge_content c.args.graph.now.graph c.loop-element.element-index c.element-item.result c.count_nodes-count.ensures.graph within found).1

pub loop-element-preserved : goal.loop-element-preserved
loop-element-preserved c =
    let edges = c.edges-edges.result.now in
    let more = say_more (edge c.args.name.now) edges c.loop-element.element-index c.element-item.result c.in_ok-edge_record.field-0 c.args.out.now.items c.loop-element.out.items c.loop-element-test.true c.element-item.is c.loop-element.invariant c.in_ok-edge_record.ensures in
    subst (λ (rs : List Record). SayAlso (map (edge c.args.name.now) (take (c.loop-element.element-index + 1) edges)) c.args.out.now.items rs) (sym c.in_ok-push.ensures.items) more
