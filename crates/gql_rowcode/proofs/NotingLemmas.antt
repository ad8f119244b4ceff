-- What a node or an edge changes of what is known, where the graph's place was found.
use Rattle.std.proofs.Common.{◌≡◌, ◌∙◌, ℕ, Bool, true, false, List, map, get_or, Option, Some, None, refl, sym, ap, subst}
use Rattle.std.specs.Prelude.{option_map, position, slice_set}
use Rattle.std.specs.List.{list_all}
use Rattle.gql_values3.specs.PropertyGraph.{are_nodes}
use Rattle.gql_values3.specs.Texts.{same_text}
use Rattle.gql_values3.specs.declared.records.NodeRecord.{NodeRecord}
use Rattle.gql_values3.specs.declared.records.EdgeRecord.{EdgeRecord}
use Rattle.gql_graph.specs.Catalog.{CatalogGraph, CatalogData, named}
use Rattle.gql_graph.specs.declared.graph_type.GraphType.{GraphType}
use Rattle.gql_type.specs.GraphTypes.{is_graph_type}
use Rattle.gql_rowcode.specs.Records.{node, edge}
use Rattle.gql_rowcode.specs.FirstBad.{and_node, and_edge, on_graph}
use Rattle.gql_rowcode.specs.declared.seen.GraphSeen.{GraphSeen}
use Rattle.gql_rowcode.specs.declared.seen.Seen.{Seen}
use Rattle.gql_rowcode.specs.Machinery.KeyOrder.{AreListed}
use Rattle.gql_rowcode.specs.Machinery.Noted.{note, node_joins, edge_joins, noted_after, noted_of, IsNoted, graph_seen, named_seen, with_node_seen, with_edge_seen}
use Rattle.gql_rowcode.proofs.MemberLemmas.{Has, has_map, all_has}
use Rattle.gql_rowcode.proofs.NameLemmas.{named_has}
use Rattle.gql_rowcode.proofs.SortedLemmas.{when, unless}
use Rattle.gql_rowcode.proofs.PlaceLemmas.{place_within, has_get, named_at, named_nowhere, named_seen-under, changed_at}

-- a graph type that is found is in order
pub type_in_order : (types : List (List ℕ × GraphType)) (name : List ℕ) (t : GraphType) → list_all (λ (t : List ℕ × GraphType). is_graph_type t.1) types ≡ true → Some t ≡ named name types → is_graph_type t ≡ true
type_in_order types name t all found = all_has (λ (t : List ℕ × GraphType). is_graph_type t.1) types (name, t) all (named_has name types t (sym found))

abbrev pub PlaceIs : Seen → List ℕ → Option ℕ → Type 0
PlaceIs s name place = position (λ (y : List ℕ × GraphSeen). same_text name y.0) s.graphs.items ≡ place

-- no graph has the name
pub nowhere : (s : Seen) (name : List ℕ) → PlaceIs s name None → named name (noted_of s).graphs ≡ None
nowhere s name e = sym (named_seen-under name s.graphs.items) ∙ ap (option_map graph_seen) (named_nowhere name s.graphs.items e)

pub node_nowhere : (s : Seen) (name : List ℕ) (r : NodeRecord) (first : Bool) → PlaceIs s name None → noted_after first (noted_of s) (node name r) ≡ None
node_nowhere s name r first e =
    unless (node_joins s.types.items r (named name (noted_of s).graphs)) (Some (note (noted_of s) (node name r))) None (ap (node_joins s.types.items r) (nowhere s name e))

pub edge_nowhere : (s : Seen) (name : List ℕ) (r : EdgeRecord) (first : Bool) → PlaceIs s name None → noted_after first (noted_of s) (edge name r) ≡ None
edge_nowhere s name r first e =
    unless (edge_joins s.types.items r (named name (noted_of s).graphs)) (Some (note (noted_of s) (edge name r))) None (ap (edge_joins s.types.items r) (nowhere s name e))

module _ (s : Seen) (name : List ℕ) (place : ℕ) (x : List ℕ × GraphSeen) (at : PlaceIs s name (Some place)) (is : x ≡ get_or s.graphs.items place x) where
  found : named name (noted_of s).graphs ≡ Some (graph_seen x.1)
  found = sym (named_seen-under name s.graphs.items) ∙ ap (option_map graph_seen) (named_at name s.graphs.items place x at is)

  pub nodes_at : IsNoted (noted_of s) → are_nodes x.1.nodes x.1.next_node ≡ true
  nodes_at noted =
      let w = place_within (λ (y : List ℕ × GraphSeen). same_text name y.0) s.graphs.items place at in
      let there : Has s.graphs.items x = subst (Has s.graphs.items) (sym is) (has_get s.graphs.items place x w.0) in
      all_has (λ (g : List ℕ × CatalogGraph). are_nodes g.1.graph.nodes g.1.graph.next_node) (map named_seen s.graphs.items) (named_seen x) noted.nodes_fit (has_map named_seen s.graphs.items x there)

  module _ (first : Bool) where
    pub node_refused : (r : NodeRecord) → node_joins s.types.items r (Some (graph_seen x.1)) ≡ false → noted_after first (noted_of s) (node name r) ≡ None
    node_refused r no_join =
        unless (node_joins s.types.items r (named name (noted_of s).graphs)) (Some (note (noted_of s) (node name r))) None (ap (node_joins s.types.items r) found ∙ no_join)

    pub edge_refused : (r : EdgeRecord) → edge_joins s.types.items r (Some (graph_seen x.1)) ≡ false → noted_after first (noted_of s) (edge name r) ≡ None
    edge_refused r no_join =
        unless (edge_joins s.types.items r (named name (noted_of s).graphs)) (Some (note (noted_of s) (edge name r))) None (ap (edge_joins s.types.items r) found ∙ no_join)

    pub node_noted : (r : NodeRecord) (next : Seen) → AreListed s.graphs.items → node_joins s.types.items r (Some (graph_seen x.1)) ≡ true
        → ((d : List ℕ × GraphSeen) → next.graphs.items ≡ slice_set s.graphs.items place (with_node_seen r (get_or s.graphs.items place d))) → next.types.items ≡ s.types.items
        → noted_after first (noted_of s) (node name r) ≡ Some (noted_of next)
    node_noted r next listed joins graphs types =
        let set : map named_seen next.graphs.items ≡ (on_graph name (and_node r) (noted_of s)).graphs = ap (map named_seen) (graphs x) ∙ sym (changed_at name (and_node r) (with_node_seen r) (λ g. refl) s.graphs.items place x listed at) in
        let same : note (noted_of s) (node name r) ≡ noted_of next = λ i. record { graphs = sym set i; types = sym types i } in
        when (node_joins s.types.items r (named name (noted_of s).graphs)) (Some (note (noted_of s) (node name r))) None (ap (node_joins s.types.items r) found ∙ joins) ∙ ap (λ (c : CatalogData). Some c) same

    pub edge_noted : (r : EdgeRecord) (next : Seen) → AreListed s.graphs.items → edge_joins s.types.items r (Some (graph_seen x.1)) ≡ true
        → ((d : List ℕ × GraphSeen) → next.graphs.items ≡ slice_set s.graphs.items place (with_edge_seen r (get_or s.graphs.items place d))) → next.types.items ≡ s.types.items
        → noted_after first (noted_of s) (edge name r) ≡ Some (noted_of next)
    edge_noted r next listed joins graphs types =
        let set : map named_seen next.graphs.items ≡ (on_graph name (and_edge r) (noted_of s)).graphs = ap (map named_seen) (graphs x) ∙ sym (changed_at name (and_edge r) (with_edge_seen r) (λ g. refl) s.graphs.items place x listed at) in
        let same : note (noted_of s) (edge name r) ≡ noted_of next = λ i. record { graphs = sym set i; types = sym types i } in
        when (edge_joins s.types.items r (named name (noted_of s).graphs)) (Some (note (noted_of s) (edge name r))) None (ap (edge_joins s.types.items r) found ∙ joins) ∙ ap (λ (c : CatalogData). Some c) same
