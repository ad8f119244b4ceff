use Rattle.std.proofs.Common.{◌≡◌, false, Option, sym, ap, ◌∙◌}
use Rattle.gql_values3.specs.Lookup.{node_of}
use Rattle.gql_values3.specs.declared.records.NodeRecord.{NodeRecord}
use Rattle.gql_rowcode.specs.Records.{node}
use Rattle.gql_txn.specs.Machinery.GraphChanges.{is_node}
use Rattle.gql_txn.proofs.TellingLemmas.{say_unless}
use Rattle.gql_txn.proofs.graph_changes.put_node.Goals as goal

pub returns : goal.returns
returns c =
    let element = c.args.element.now in
    let other : is_node (node_of c.args.before.now.graph element.number) element ≡ false = ap (λ (o : Option NodeRecord). is_node o element) (sym c.node_near.ensures) ∙ sym c.is_node.ensures ∙ c.if-is_node.false in
    say_unless (is_node (node_of c.args.before.now.graph element.number) element) (node c.args.name.now element) c.in_ok-node_record.field-0 c.args.out.now.items c.push.new.self.items other c.in_ok-node_record.ensures c.in_ok-push.ensures.items
