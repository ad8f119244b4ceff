use Rattle.std.proofs.Common.{◌+◌, List, map, take, sym, subst}
use Rattle.gql_ports.specs.declared.stored.Record.{Record}
use Rattle.gql_rowcode.specs.Records.{node}
use Rattle.gql_rowcode.specs.Machinery.Writing.{SayAlso}
use Rattle.gql_rowcode.proofs.WritingLemmas.{say_more}
use Rattle.gql_rowcode.proofs.writing.put_nodes.Goals as goal

pub loop-element-preserved : goal.loop-element-preserved
loop-element-preserved c =
    let nodes = c.nodes-nodes.result.now in
    let more = say_more (node c.args.name.now) nodes c.loop-element.element-index c.element-item.result c.in_ok-node_record.field-0 c.args.out.now.items c.loop-element.out.items c.loop-element-test.true c.element-item.is c.loop-element.invariant c.in_ok-node_record.ensures in
    subst (λ (rs : List Record). SayAlso (map (node c.args.name.now) (take (c.loop-element.element-index + 1) nodes)) c.args.out.now.items rs) (sym c.in_ok-push.ensures.items) more
