use Rattle.std.proofs.Common.{◌≡◌, false, Option, sym, ap, ◌∙◌}
use Rattle.gql_values3.specs.Lookup.{edge_of}
use Rattle.gql_values3.specs.declared.records.EdgeRecord.{EdgeRecord}
use Rattle.gql_rowcode.specs.Records.{edge}
use Rattle.gql_txn.specs.Machinery.GraphChanges.{is_edge}
use Rattle.gql_txn.proofs.TellingLemmas.{say_unless}
use Rattle.gql_txn.proofs.graph_changes.put_edge.Goals as goal

pub returns : goal.returns
returns c =
    let element = c.args.element.now in
    let other : is_edge (edge_of c.args.before.now.graph element.number) element ≡ false = ap (λ (o : Option EdgeRecord). is_edge o element) (sym c.edge_near.ensures) ∙ sym c.is_edge.ensures ∙ c.if-is_edge.false in
    say_unless (is_edge (edge_of c.args.before.now.graph element.number) element) (edge c.args.name.now element) c.in_ok-edge_record.field-0 c.args.out.now.items c.push.new.self.items other c.in_ok-edge_record.ensures c.in_ok-push.ensures.items
