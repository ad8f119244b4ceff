use Rattle.std.proofs.Common.{ℕ, ◌+◌, List, map, take, sym, subst}
use Rattle.gql_graph.specs.declared.graph_type.GraphType.{GraphType}
use Rattle.gql_ports.specs.declared.stored.Record.{Record}
use Rattle.gql_rowcode.specs.Records.{Form, graph_type, Says}
use Rattle.gql_rowcode.specs.Machinery.Writing.{SayAlso}
use Rattle.gql_rowcode.proofs.WritingLemmas.{say_more}
use Rattle.gql_rowcode.proofs.writing.put_types.Goals as goal

pub loop-named-preserved : goal.loop-named-preserved
loop-named-preserved c =
    let say : List ℕ × GraphType → Form = λ t. graph_type t.0 t.1 in
    let made = c.in_ok-type_record.field-0 in
    let says : Says (say c.named-item.result) made = subst (λ (name : List ℕ). Says (graph_type name c.named-item.result.1) made) c.as_str.ensures c.in_ok-type_record.ensures in
    let more = say_more say c.args.types.now c.loop-named.named-index c.named-item.result made c.args.out.now.items c.loop-named.out.items c.loop-named-test.true c.named-item.is c.loop-named.invariant says in
    subst (λ (rs : List Record). SayAlso (map say (take (c.loop-named.named-index + 1) c.args.types.now)) c.args.out.now.items rs) (sym c.in_ok-push.ensures.items) more
