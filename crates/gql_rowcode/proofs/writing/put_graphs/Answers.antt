use Rattle.std.proofs.Common.{ℕ, List, sym, subst}
use Rattle.gql_graph.specs.Bare.{bare, bare_held}
use Rattle.gql_graph.specs.declared.held.Held.{Held}
use Rattle.gql_rowcode.specs.Records.{Form}
use Rattle.gql_rowcode.specs.StandFor.{graph_forms}
use Rattle.gql_rowcode.specs.Machinery.Writing.{SayAlso}
use Rattle.gql_rowcode.proofs.WritingLemmas.{say_more_each, say_all_each, flat_map-map}
use Rattle.gql_rowcode.proofs.writing.put_graphs.Goals as goal

abbrev say : List ℕ × Held → List Form
say g = graph_forms (bare g)

pub loop-named-preserved : goal.loop-named-preserved
loop-named-preserved c =
    let says : SayAlso (say c.named-item.result) c.loop-named.out.items c.put_graph.new.out.items =
    subst (λ (name : List ℕ). SayAlso (graph_forms (name, bare_held c.named-item.result.1)) c.loop-named.out.items c.put_graph.new.out.items) c.as_str.ensures c.in_ok-put_graph.ensures in
    say_more_each say c.args.graphs.now c.loop-named.named-index c.named-item.result c.args.out.now.items c.loop-named.out.items c.put_graph.new.out.items c.loop-named-test.true c.named-item.is c.loop-named.invariant says

pub returns : goal.returns
returns c =
    let all = say_all_each say c.args.graphs.now c.loop-named.named-index c.args.out.now.items c.loop-named.out.items c.loop-named-test.false c.loop-named.invariant in
    subst (λ (fs : List Form). SayAlso fs c.args.out.now.items c.loop-named.out.items) (sym (flat_map-map bare graph_forms c.args.graphs.now)) all
