use Rattle.std.proofs.Common.{ℕ, List, map, subst}
use Rattle.std.specs.List.{flat_map}
use Rattle.gql_graph.specs.Catalog.{CatalogGraph}
use Rattle.gql_graph.specs.declared.graph_type.GraphType.{GraphType}
use Rattle.gql_rowcode.specs.Records.{graph_type}
use Rattle.gql_rowcode.specs.StandFor.{graph_forms}
use Rattle.gql_rowcode.specs.Machinery.Writing.{SayAlso}
use Rattle.gql_rowcode.proofs.WritingLemmas.{say_catalog}
use Rattle.gql_rowcode.proofs.writing.said.Goals as goal

pub returns : goal.returns
returns c =
    let first = c.push.new.self.items in
    let middle = c.put_types.new.out.items in
    let types = subst (λ (ts : List (List ℕ × GraphType)). SayAlso (map (λ (t : List ℕ × GraphType). graph_type t.0 t.1) ts) first middle) c.types.ensures c.in_ok-put_types.ensures in
    let graphs = subst (λ (gs : List (List ℕ × CatalogGraph)). SayAlso (flat_map graph_forms gs) middle c.put_graphs.new.out.items) c.graphs.ensures.graphs c.in_ok-put_graphs.ensures in
    say_catalog c.args.catalog.now c.in_ok-version_record.field-0 first middle c.put_graphs.new.out.items c.in_ok-version_record.ensures (rw c.new-all.ensures.items at c.in_ok-push.ensures.items) types graphs
