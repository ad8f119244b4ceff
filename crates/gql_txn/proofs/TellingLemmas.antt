-- What is new and what is gone, told part by part: the graph's own form, its nodes and its edges.
use Rattle.std.proofs.Common.{◌≡◌, ℕ, ◌<◌, Bool, true, false, List, [], ◌∷◌, ◌++◌, map, length, get_or, sym, ap, subst, ◌∙◌}
use Rattle.std.specs.List.{flat_map}
use Rattle.std.proofs.lemmas.Bool.{and_parts}
use Rattle.std.proofs.lemmas.List.{map-append}
use Rattle.std.proofs.lemmas.List.Concat.{flat_map-append, flat_map-cons}
use Rattle.gql_values3.specs.PropertyGraph.{PropertyGraph, are_properties, is_graph}
use Rattle.gql_values3.specs.Lookup.{node_of, edge_of, has_node}
use Rattle.gql_values3.specs.Texts.{texts_ascend}
use Rattle.gql_values3.specs.declared.records.NodeRecord.{NodeRecord}
use Rattle.gql_values3.specs.declared.records.EdgeRecord.{EdgeRecord}
use Rattle.gql_graph.specs.Catalog.{CatalogGraph}
use Rattle.gql_graph.specs.Edits.{has_edge}
use Rattle.gql_ports.specs.declared.stored.Record.{Record}
use Rattle.gql_rowcode.specs.Records.{Form, graph, node, edge, key_of, Says}
use Rattle.gql_rowcode.specs.Machinery.Writing.{SayAlso}
use Rattle.gql_rowcode.proofs.MemberLemmas.{has_at}
use Rattle.gql_rowcode.proofs.SoundLemmas.{graph_facts}
use Rattle.gql_rowcode.proofs.WritingLemmas.{say_then, say_one, flat_map-map}
use Rattle.gql_txn.specs.Machinery.Same.{same_numbers}
use Rattle.gql_txn.specs.Machinery.GraphChanges.{is_node, is_edge, is_said, is_keyed, unless, new_forms, gone_forms, KeysAlso}

-- the properties of a graph's node are in order
pub node_properties : (g : PropertyGraph) (i : ℕ) (r : NodeRecord) → is_graph g ≡ true → i < length g.nodes → r ≡ get_or g.nodes i r → are_properties r.properties ≡ true
node_properties g i r is within here = (and_parts (texts_ascend r.labels) (are_properties r.properties) ((graph_facts g is).nodes_fit r (has_at g.nodes r i within (sym here)))).1

-- a form that is not said yet
pub say_unless : (b : Bool) (f : Form) (r : Record) (old new : List Record) → b ≡ false → Says f r → new ≡ old ++ r ∷ [] → SayAlso (unless b f) old new
say_unless true f r old new e says pushed = absurd (cc)
say_unless false f r old new e says pushed = subst (SayAlso (f ∷ []) old) (sym pushed) (say_one f r old says)

-- some of what is said of a graph
parts_are : (say : Form → List Form) (name : List ℕ) (head : Form) (nodes : List NodeRecord) (edges : List EdgeRecord)
    → flat_map say (head ∷ (map (node name) nodes ++ map (edge name) edges)) ≡ say head ++ (flat_map (λ (r : NodeRecord). say (node name r)) nodes ++ flat_map (λ (r : EdgeRecord). say (edge name r)) edges)
parts_are say name head nodes edges =
    flat_map-cons say head (map (node name) nodes ++ map (edge name) edges)
    ∙ ap (λ (fs : List Form). say head ++ fs) (flat_map-append say (map (node name) nodes) (map (edge name) edges) ∙ (λ i. flat_map-map (node name) say nodes i ++ flat_map-map (edge name) say edges i))

module _ (name : List ℕ) (before : PropertyGraph) (after : CatalogGraph) where
  abbrev new_head : List Form
  new_head = unless (same_numbers before after.graph) (graph name after.kind after.graph.next_node after.graph.next_edge)

  abbrev new_nodes : List Form
  new_nodes = flat_map (λ (r : NodeRecord). unless (is_node (node_of before r.number) r) (node name r)) after.graph.nodes

  abbrev new_edges : List Form
  new_edges = flat_map (λ (r : EdgeRecord). unless (is_edge (edge_of before r.number) r) (edge name r)) after.graph.edges

  pub say_new : (a b m all : List Record) → a ≡ [] → SayAlso new_head a b → SayAlso new_nodes b m → SayAlso new_edges m all → SayAlso (new_forms name before after) [] all
  say_new a b m all none head nodes edges =
      let are = parts_are (λ (f : Form). unless (is_said before f) f) name (graph name after.kind after.graph.next_node after.graph.next_edge) after.graph.nodes after.graph.edges in
      subst (λ (rs : List Record). SayAlso (new_forms name before after) rs all) none (subst (λ (fs : List Form). SayAlso fs a all) (sym are) (say_then new_head (new_nodes ++ new_edges) a b all head (say_then new_nodes new_edges b m all nodes edges)))

  abbrev gone_nodes : List Form
  gone_nodes = flat_map (λ (r : NodeRecord). unless (has_node after.graph r.number) (node name r)) before.nodes

  abbrev gone_edges : List Form
  gone_edges = flat_map (λ (r : EdgeRecord). unless (has_edge after.graph r.number) (edge name r)) before.edges

  pub keys_gone : (a b all : List (List ℕ)) → a ≡ [] → KeysAlso gone_nodes a b → KeysAlso gone_edges b all → KeysAlso (gone_forms name before after) [] all
  keys_gone a b all none nodes edges =
      let are = parts_are (λ (f : Form). unless (is_keyed after.graph f) f) name (graph name after.kind before.next_node before.next_edge) before.nodes before.edges in
      edges ∙ ap (λ (ks : List (List ℕ)). ks ++ map key_of gone_edges) (nodes ∙ ap (λ (ks : List (List ℕ)). ks ++ map key_of gone_nodes) none) ∙ sym (map-append key_of gone_nodes gone_edges) ∙ ap (map key_of) (sym are)
