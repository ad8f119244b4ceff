use Rattle.std.proofs.Common.{ℕ, List, map}
use Rattle.gql_graph.specs.Bare.{bare_held}
use Rattle.gql_graph.specs.Catalog.{CatalogGraph}
use Rattle.gql_rowcode.specs.Records.{edge}
use Rattle.gql_rowcode.specs.StandFor.{graph_forms}
use Rattle.gql_rowcode.specs.Machinery.Writing.{SayAlso}
use Rattle.gql_rowcode.proofs.WritingLemmas.{say_graph, on_ok}
use Rattle.gql_rowcode.proofs.writing.put_graph.Goals as goal

pub returns : goal.returns
returns c =
    let p : List ℕ × CatalogGraph = (c.args.name.now, bare_held c.args.held.now) in
    let start = c.args.out.now.items in
    on_ok c.put_edges.result (SayAlso (map (edge c.args.name.now) c.args.held.now.graph.graph.edges) c.put_nodes.new.out.items c.put_edges.new.out.items) (SayAlso (graph_forms p) start c.put_edges.new.out.items)
    (λ edges. say_graph p c.in_ok-graph_record.field-0 start c.push.new.self.items c.put_nodes.new.out.items c.put_edges.new.out.items c.in_ok-graph_record.ensures c.in_ok-push.ensures.items c.in_ok-put_nodes.ensures edges)
    c.put_edges.ensures
