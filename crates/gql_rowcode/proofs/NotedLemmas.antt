-- What was noted of forms is what they describe, but for the order; and what may be told next may follow.
use Rattle.std.proofs.Common.{◌≡◌, ◌≢◌, ℕ, ◌∙◌, ◌<◌, ltb, Bool, true, false, not, ◌&&◌, List, [], ◌∷◌, ◌++◌, map, Option, Some, None, refl, sym, ap, subst, inl, inr, ◌⊎◌}
use Rattle.std.proofs.lemmas.Bool.{ltb-true, lt-ltb, and_parts, and_from, not-true}
use Rattle.gql_values3.specs.PropertyGraph.{PropertyGraph, are_ends}
use Rattle.gql_values3.specs.declared.records.NodeRecord.{NodeRecord}
use Rattle.gql_values3.specs.declared.records.EdgeRecord.{EdgeRecord}
use Rattle.gql_graph.specs.Catalog.{CatalogGraph, CatalogData, named, held_in}
use Rattle.gql_graph.specs.declared.graph_type.GraphType.{GraphType}
use Rattle.gql_type.specs.Conformance.{node_fits, edge_fits}
use Rattle.gql_type.specs.GraphTypes.{is_graph_type}
use Rattle.gql_eval.specs.StableSort.{stably_sorted}
use Rattle.gql_rowcode.specs.Records.{Form, version, graph_type, graph, node, edge}
use Rattle.gql_rowcode.specs.FirstBad.{and_node, and_edge, on_graph, with_form, with_forms, described, by_type, passes_type, JoinsAsNode, JoinsAsEdge, Follows}
use Rattle.gql_rowcode.specs.Machinery.Noted.{note, new_graph, node_joins, edge_joins, graph_joins, may_join, name_before, in_order}
use Rattle.gql_rowcode.proofs.SaidLemmas.{on_one, on_held, on_is}
use Rattle.gql_rowcode.proofs.SortedLemmas.{sorted_push, named_sorted, sorted_map}

-- ---- the same catalog

abbrev pub note_forms : CatalogData → List Form → CatalogData
note_forms c [] = c
note_forms c (f ∷ fs) = note_forms (note c f) fs

-- what is noted of forms, one after the other
abbrev pub noted : List Form → CatalogData
noted forms = note_forms (record { graphs = []; types = [] }) forms

pub noted-push : (c : CatalogData) (fs : List Form) (f : Form) → note_forms c (fs ++ f ∷ []) ≡ note (note_forms c fs) f
noted-push c [] f = refl
noted-push c (g ∷ gs) f = noted-push (note c g) gs f

name_stays : (name : List ℕ) (change : PropertyGraph → PropertyGraph) (p : List ℕ × CatalogGraph) → (on_one name change p).0 ≡ p.0
name_stays name change p = ap (λ (q : List ℕ × CatalogGraph). q.0) (on_is name change p)

changed_sorted : (c : CatalogData) (name : List ℕ) (change : PropertyGraph → PropertyGraph) → on_graph name change (in_order c) ≡ in_order (on_graph name change c)
changed_sorted c name change =
    ap (λ (gs : List (List ℕ × CatalogGraph)). record { graphs = gs; types = stably_sorted name_before c.types }) (sorted_map (on_one name change) (name_stays name change) c.graphs)

sorted_form : (c : CatalogData) (f : Form) → with_form (in_order c) f ≡ in_order (note c f)
sorted_form c version = refl
sorted_form c (graph_type name t) = ap (λ (ts : List (List ℕ × GraphType)). record { graphs = stably_sorted name_before c.graphs; types = ts }) (sym (sorted_push c.types name t))
sorted_form c (graph name kind n e) = ap (λ (gs : List (List ℕ × CatalogGraph)). record { graphs = gs; types = stably_sorted name_before c.types }) (sym (sorted_push c.graphs name (new_graph kind n e)))
sorted_form c (node name r) = changed_sorted c name (and_node r)
sorted_form c (edge name r) = changed_sorted c name (and_edge r)

sorted_forms : (fs : List Form) (c : CatalogData) → with_forms (in_order c) fs ≡ in_order (note_forms c fs)
sorted_forms [] c = refl
sorted_forms (f ∷ fs) c = ap (λ (d : CatalogData). with_forms d fs) (sorted_form c f) ∙ sorted_forms fs (note c f)

pub described-noted : (fs : List Form) → described fs ≡ in_order (noted fs)
described-noted fs = sorted_forms fs (record { graphs = []; types = [] })

-- ---- what may be told next

module _ (forms : List Form) where
  abbrev c : CatalogData
  c = noted forms

  abbrev d : CatalogData
  d = described forms

  types_same : (name : List ℕ) → named name d.types ≡ named name c.types
  types_same name = ap (λ (x : CatalogData). named name x.types) (described-noted forms) ∙ named_sorted name c.types

  pub graphs_same : (name : List ℕ) → held_in d name ≡ named name c.graphs
  graphs_same name = ap (λ (x : CatalogData). held_in x name) (described-noted forms) ∙ named_sorted name c.graphs

  passes_same : (test : GraphType → Bool) (kind : Option (List ℕ)) → passes_type test d.types kind ≡ passes_type test c.types kind
  passes_same test None = refl
  passes_same test (Some name) = ap (by_type test) (types_same name)

  node_to : (r : NodeRecord) (o : Option CatalogGraph) → JoinsAsNode d.types r o → node_joins c.types r o ≡ true
  node_to r None j = absurd j
  node_to r (Some g) j =
      and_from (ltb 0 r.number.0 && ltb r.number.0 g.graph.next_node) (passes_type (λ t. node_fits t r) c.types g.kind)
      (and_from (ltb 0 r.number.0) (ltb r.number.0 g.graph.next_node) (lt-ltb 0 r.number.0 j.0) (lt-ltb r.number.0 g.graph.next_node j.1))
      (sym (passes_same (λ t. node_fits t r) g.kind) ∙ j.2)

  node_from : (r : NodeRecord) (o : Option CatalogGraph) → node_joins c.types r o ≡ true → JoinsAsNode d.types r o
  node_from r None h = absurd (cc)
  node_from r (Some g) h =
      let p = and_parts (ltb 0 r.number.0 && ltb r.number.0 g.graph.next_node) (passes_type (λ t. node_fits t r) c.types g.kind) h in
      let q = and_parts (ltb 0 r.number.0) (ltb r.number.0 g.graph.next_node) p.0 in
      (ltb-true 0 r.number.0 q.0, ltb-true r.number.0 g.graph.next_node q.1, passes_same (λ t. node_fits t r) g.kind ∙ p.1)

  edge_to : (r : EdgeRecord) (o : Option CatalogGraph) → JoinsAsEdge d.types r o → edge_joins c.types r o ≡ true
  edge_to r None j = absurd j
  edge_to r (Some g) j =
      and_from (ltb 0 r.number.0 && ltb r.number.0 g.graph.next_edge && are_ends g.graph.nodes r.ends) (passes_type (λ t. edge_fits g.graph t r) c.types g.kind)
      (and_from (ltb 0 r.number.0 && ltb r.number.0 g.graph.next_edge) (are_ends g.graph.nodes r.ends)
      (and_from (ltb 0 r.number.0) (ltb r.number.0 g.graph.next_edge) (lt-ltb 0 r.number.0 j.0) (lt-ltb r.number.0 g.graph.next_edge j.1)) j.2)
      (sym (passes_same (λ t. edge_fits g.graph t r) g.kind) ∙ j.3)

  edge_from : (r : EdgeRecord) (o : Option CatalogGraph) → edge_joins c.types r o ≡ true → JoinsAsEdge d.types r o
  edge_from r None h = absurd (cc)
  edge_from r (Some g) h =
      let p = and_parts (ltb 0 r.number.0 && ltb r.number.0 g.graph.next_edge && are_ends g.graph.nodes r.ends) (passes_type (λ t. edge_fits g.graph t r) c.types g.kind) h in
      let q = and_parts (ltb 0 r.number.0 && ltb r.number.0 g.graph.next_edge) (are_ends g.graph.nodes r.ends) p.0 in
      let s = and_parts (ltb 0 r.number.0) (ltb r.number.0 g.graph.next_edge) q.0 in
      (ltb-true 0 r.number.0 s.0, ltb-true r.number.0 g.graph.next_edge s.1, q.1, passes_same (λ t. edge_fits g.graph t r) g.kind ∙ p.1)

  module _ (first : Bool) (none : first ≡ true → forms ≡ []) (some : first ≡ false → forms ≢ []) where
    not_first : forms ≢ [] → not first ≡ true
    not_first there = told first refl
      where
        told : (b : Bool) → first ≡ b → not b ≡ true
        told true e = absurd (there (none e))
        told false e = refl

    later : not first ≡ true → forms ≢ []
    later h = some (not-true first h)

    at_first : forms ≡ [] → first ≡ true
    at_first e = told first refl
      where
        told : (b : Bool) → first ≡ b → b ≡ true
        told true k = refl
        told false k = absurd (some k e)

    -- what follows may be told next
    pub follows_joins : (f : Form) → Follows forms f → may_join first c f ≡ true
    follows_joins version h = at_first h
    follows_joins (graph_type name t) h = and_from (not first) (is_graph_type t) (not_first h.0) h.1
    follows_joins (graph name kind n e) h =
        and_from (not first) (graph_joins c.types kind n e) (not_first h.0)
        (and_from (ltb 0 n && ltb 0 e) (passes_type (λ t. true) c.types kind) (and_from (ltb 0 n) (ltb 0 e) (lt-ltb 0 n h.2) (lt-ltb 0 e h.3)) (sym (passes_same (λ t. true) kind) ∙ h.1))
    follows_joins (node name r) h = ap (node_joins c.types r) (sym (graphs_same name)) ∙ node_to r (held_in d name) h
    follows_joins (edge name r) h = ap (edge_joins c.types r) (sym (graphs_same name)) ∙ edge_to r (held_in d name) h

    -- and the other way round
    pub joins_follow : (f : Form) → may_join first c f ≡ true → Follows forms f
    joins_follow version h = none h
    joins_follow (graph_type name t) h = let p = and_parts (not first) (is_graph_type t) h in (later p.0, p.1)
    joins_follow (graph name kind n e) h =
        let p = and_parts (not first) (graph_joins c.types kind n e) h in
        let q = and_parts (ltb 0 n && ltb 0 e) (passes_type (λ t. true) c.types kind) p.1 in
        let s = and_parts (ltb 0 n) (ltb 0 e) q.0 in
        (later p.0, passes_same (λ t. true) kind ∙ q.1, ltb-true 0 n s.0, ltb-true 0 e s.1)
    joins_follow (node name r) h = node_from r (held_in d name) (ap (node_joins c.types r) (graphs_same name) ∙ h)
    joins_follow (edge name r) h = edge_from r (held_in d name) (ap (edge_joins c.types r) (graphs_same name) ∙ h)
