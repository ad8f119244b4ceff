-- Sound catalogs of which the same is said are one.
use Rattle.std.proofs.Common.{◌≡◌, ℕ, ◌∙◌, ◌<◌, List, Option, refl, sym, ap, subst, arith, inl, inr}
use Rattle.gql_values3.specs.PropertyGraph.{PropertyGraph}
use Rattle.gql_values3.specs.declared.records.NodeRecord.{NodeRecord}
use Rattle.gql_values3.specs.declared.records.EdgeRecord.{EdgeRecord}
use Rattle.gql_graph.specs.Catalog.{CatalogGraph, CatalogData}
use Rattle.gql_graph.specs.declared.graph_type.GraphType.{GraphType}
use Rattle.gql_rowcode.specs.Records.{Form, version, graph_type, graph, node, edge}
use Rattle.gql_rowcode.proofs.MemberLemmas.{Has, same_lists}
use Rattle.gql_rowcode.proofs.NameLemmas.{NameLess, names_in_order, below_itself, below_chain, one_named}
use Rattle.gql_rowcode.proofs.NumberLemmas.{NumberLess, numbers_in_order}
use Rattle.gql_rowcode.proofs.SoundLemmas.{IsGraph, Sound, node_number, edge_number}
use Rattle.gql_rowcode.proofs.SaidLemmas.{Says}

never : {X : Type 0} (key : X → ℕ) (x : X) → key x < key x → ⊥
never key x lt = omega arith

later : {X : Type 0} (key : X → ℕ) (x y z : X) → key x < key y → key y < key z → key x < key z
later key x y z p q = omega arith

-- nodes of graphs, and edges, that are the same
same_nodes : (g h : PropertyGraph) → IsGraph g → IsGraph h → ((x : NodeRecord) → Has g.nodes x → Has h.nodes x) → ((x : NodeRecord) → Has h.nodes x → Has g.nodes x) → g.nodes ≡ h.nodes
same_nodes g h a b there back =
    same_lists (NumberLess node_number) (never node_number) (later node_number) g.nodes h.nodes (numbers_in_order node_number g.nodes 0 g.next_node a.node_order) (numbers_in_order node_number h.nodes 0 h.next_node b.node_order) there back

same_edges : (g h : PropertyGraph) → IsGraph g → IsGraph h → ((x : EdgeRecord) → Has g.edges x → Has h.edges x) → ((x : EdgeRecord) → Has h.edges x → Has g.edges x) → g.edges ≡ h.edges
same_edges g h a b there back =
    same_lists (NumberLess edge_number) (never edge_number) (later edge_number) g.edges h.edges (numbers_in_order edge_number g.edges 0 g.next_edge a.edge_order) (numbers_in_order edge_number h.edges 0 h.next_edge b.edge_order) there back

same_graph : (g h : CatalogGraph) → g.graph.nodes ≡ h.graph.nodes → g.graph.edges ≡ h.graph.edges → g.graph.next_node ≡ h.graph.next_node → g.graph.next_edge ≡ h.graph.next_edge → g.kind ≡ h.kind → g ≡ h
same_graph g h p q r s k = λ i. record { graph = record { nodes = p i; edges = q i; next_node = r i; next_edge = s i }; kind = k i }

module _ (c d : CatalogData) (one : Sound c) (other : Sound d) (there : (f : Form) → Says c f → Says d f) (back : (f : Form) → Says d f → Says c f) where
  -- a graph of the one is a graph of the other
  graph_there : (p : List ℕ × CatalogGraph) → Has c.graphs p → Has d.graphs p
  graph_there p h =
      let g : CatalogGraph = p.1 in
      let s = there (graph p.0 g.kind g.graph.next_node g.graph.next_edge) (g, h, refl, refl, refl) in
      let d_order = names_in_order d.graphs other.graph_names in
      let c_order = names_in_order c.graphs one.graph_names in
      let a : IsGraph g.graph = one.graphs_fit p h in
      let b : IsGraph s.0.graph = other.graphs_fit (p.0, s.0) s.1 in
      let nodes : g.graph.nodes ≡ s.0.graph.nodes = same_nodes g.graph s.0.graph a b
      (λ x k. let t = there (node p.0 x) (g, h, k) in subst (λ (w : CatalogGraph). Has w.graph.nodes x) (one_named p.0 d.graphs t.0 s.0 d_order t.1 s.1) t.2)
      (λ x k. let t = back (node p.0 x) (s.0, s.1, k) in subst (λ (w : CatalogGraph). Has w.graph.nodes x) (one_named p.0 c.graphs t.0 g c_order t.1 h) t.2) in
      let edges : g.graph.edges ≡ s.0.graph.edges = same_edges g.graph s.0.graph a b
      (λ x k. let t = there (edge p.0 x) (g, h, k) in subst (λ (w : CatalogGraph). Has w.graph.edges x) (one_named p.0 d.graphs t.0 s.0 d_order t.1 s.1) t.2)
      (λ x k. let t = back (edge p.0 x) (s.0, s.1, k) in subst (λ (w : CatalogGraph). Has w.graph.edges x) (one_named p.0 c.graphs t.0 g c_order t.1 h) t.2) in
      let same : g ≡ s.0 = same_graph g s.0 nodes edges (sym s.3) (sym s.4) (sym s.2) in
      subst (λ (w : CatalogGraph). Has d.graphs (p.0, w)) (sym same) s.1

pub one_catalog : (c d : CatalogData) → Sound c → Sound d → ((f : Form) → Says c f → Says d f) → ((f : Form) → Says d f → Says c f) → c ≡ d
one_catalog c d one other there back =
    let types : c.types ≡ d.types = same_lists (NameLess {A = GraphType}) (λ x lt. below_itself x.0 lt) (λ x y z p q. below_chain x.0 y.0 z.0 p q) c.types d.types (names_in_order c.types one.type_names) (names_in_order d.types other.type_names)
    (λ t h. there (graph_type t.0 t.1) h) (λ t h. back (graph_type t.0 t.1) h) in
    let graphs : c.graphs ≡ d.graphs = same_lists (NameLess {A = CatalogGraph}) (λ x lt. below_itself x.0 lt) (λ x y z p q. below_chain x.0 y.0 z.0 p q) c.graphs d.graphs (names_in_order c.graphs one.graph_names) (names_in_order d.graphs other.graph_names)
    (graph_there c d one other there back) (graph_there d c other one back there) in
    λ i. record { graphs = graphs i; types = types i }
