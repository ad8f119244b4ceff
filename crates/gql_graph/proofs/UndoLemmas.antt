-- Each change of a graph is undone by another.
use Rattle.std.proofs.Common.{◌≡◌, ℕ, suc, pred, ◌^◌, ◌<◌, eqb, nat_lt, true, not, List, map, Option, None, Some, refl, ap, arith, eq-eqb}
use Rattle.std.proofs.lemmas.Bool.{and_from, and_parts}
use Rattle.std.specs.Prelude.{is_some}
use Rattle.std.proofs.lemmas.Bool.Decides.{nat_tests}
use Rattle.gql_values3.specs.PropertyGraph.{PropertyGraph, numbers_ascend, is_graph}
use Rattle.gql_values3.specs.Lookup.{node_of, edge_of}
use Rattle.gql_values3.specs.declared.element.NodeId.{NodeId}
use Rattle.gql_values3.specs.declared.element.EdgeId.{EdgeId}
use Rattle.gql_values3.specs.declared.element.Ends.{Ends}
use Rattle.gql_values3.specs.declared.element.Ends.TheVariants.{Directed, Undirected}
use Rattle.gql_values3.specs.declared.records.NodeRecord.{NodeRecord}
use Rattle.gql_values3.specs.declared.records.EdgeRecord.{EdgeRecord}
use Rattle.gql_graph.specs.declared.change.Change.{Change}
use Rattle.gql_graph.specs.declared.change.Change.TheVariants as change
use Rattle.gql_graph.specs.Edits.{node_key, edge_key, with_nodes, with_edges, changed, suits, same_ends}
use Rattle.gql_graph.proofs.GraphLemmas.{node_numbers, edge_numbers}
use Rattle.gql_graph.proofs.EditLemmas.{Up, none_above, found_key, found_below, there_at_end, there_inside, there_over, not_there, off_end, on_end, in_again, out_again, over_again}

-- the second change can act behind the first, beside that it leads to a graph, and leads back
pub record Undone (g : PropertyGraph) (done undo : Change) : Type 0 where
  pub suits : suits undo (changed done g) ≡ true
  pub back : changed undo (changed done g) ≡ g

equal : (a b : ℕ) → eqb a b ≡ true → a ≡ b
equal a b same = grind (arith, nat_tests)

lower : (a b : ℕ) → a < b → nat_lt a b ≡ true
lower a b lt = grind (arith, nat_tests)

missing : {X : Type 0} (o : Option X) → not (is_some o) ≡ true → o ≡ None
missing None absent = refl
missing (Some x) absent = absurd (cc)

same_nodes : (g : PropertyGraph) (nodes : List NodeRecord) (next : ℕ) → nodes ≡ g.nodes → next ≡ g.next_node → with_nodes g nodes next ≡ g
same_nodes g nodes next p q = λ i. with_nodes g (p i) (q i)

same_edges : (g : PropertyGraph) (edges : List EdgeRecord) (next : ℕ) → edges ≡ g.edges → next ≡ g.next_edge → with_edges g edges next ≡ g
same_edges g edges next p q = λ i. with_edges g (p i) (q i)

-- ends are the same both ways
same_ends-swapped : (a b : Ends) → same_ends a b ≡ true → same_ends b a ≡ true
same_ends-swapped (Directed a b) (Directed c d) same = grind (arith, nat_tests)
same_ends-swapped (Undirected a b) (Undirected c d) same = grind (arith, nat_tests)
same_ends-swapped (Directed a b) (Undirected c d) same = absurd (cc)
same_ends-swapped (Undirected a b) (Directed c d) same = absurd (cc)

module _ (g : PropertyGraph) (one : is_graph g ≡ true) where
  -- the numbers of the nodes ascend from 1 to the next one, which has 32 bits
  pub node_up : Up node_key 0 g.nodes g.next_node
  node_up = (and_parts _ _ (node_numbers g.nodes g.edges g.next_node g.next_edge one)).0

  next_node_fits : nat_lt g.next_node (2 ^ 32) ≡ true
  next_node_fits = (and_parts (numbers_ascend 0 (map node_key g.nodes) g.next_node) _ (node_numbers g.nodes g.edges g.next_node g.next_edge one)).1

  pub new_node_undone : (r : NodeRecord) → suits (change.NewNode r) g ≡ true → Undone g (change.NewNode r) (change.UnNode r.number)
  new_node_undone r suit =
      let next : r.number.0 ≡ g.next_node = equal _ _ (and_parts _ _ suit).0 in
      let none = none_above node_key r.number.0 g.nodes 0 g.next_node node_up (omega arith) in
      record {
        suits = and_from _ _ (eq-eqb (suc r.number.0) (suc g.next_node) (ap suc next)) (there_at_end node_key r g.nodes);
        back = same_nodes g _ _ (off_end node_key r g.nodes none) refl;
      }

  pub un_node_undone : (n : NodeId) (r : NodeRecord) → suits (change.UnNode n) g ≡ true → node_of g n ≡ Some r → Undone g (change.UnNode n) (change.NewNode r)
  un_node_undone n r suit found =
      let next : suc n.0 ≡ g.next_node = equal _ _ (and_parts _ _ suit).0 in
      let number = found_key node_key n.0 g.nodes r found in
      let up : Up node_key 0 g.nodes (suc n.0) = rw next node_up in
      let fits : nat_lt (suc (pred g.next_node)) (2 ^ 32) ≡ true = rw (← next) (rw (← next) at next_node_fits) in
      record {
        suits = and_from _ _ (eq-eqb r.number.0 (pred g.next_node) (rw (← next) number)) fits;
        back = same_nodes g _ _ (on_end node_key n.0 g.nodes 0 r up found) (rw (← next) refl);
      }

  pub out_node_undone : (n : NodeId) (r : NodeRecord) → node_of g n ≡ Some r → Undone g (change.OutNode n) (change.BackNode r)
  out_node_undone n r found =
      let number = found_key node_key n.0 g.nodes r found in
      let none : node_of (changed (change.OutNode n) g) r.number ≡ None = rw number (not_there node_key n.0 g.nodes) in
      let below = found_below node_key n.0 g.nodes 0 g.next_node r node_up found in
      record {
        suits = and_from _ _ (ap (λ (o : Option NodeRecord). not (is_some o)) none) (lower _ _ (omega arith));
        back = same_nodes g _ _ (in_again node_key n.0 g.nodes 0 g.next_node r node_up found) refl;
      }

  pub back_node_undone : (r : NodeRecord) → suits (change.BackNode r) g ≡ true → Undone g (change.BackNode r) (change.OutNode r.number)
  back_node_undone r suit = record {
    suits = there_inside node_key r g.nodes;
    back = same_nodes g _ _ (out_again node_key r g.nodes (missing _ (and_parts _ _ suit).0)) refl;
  }

  pub swap_node_undone : (r old : NodeRecord) → node_of g r.number ≡ Some old → Undone g (change.SwapNode r) (change.SwapNode old)
  swap_node_undone r old found =
      let number = found_key node_key r.number.0 g.nodes old found in
      let there : node_of (changed (change.SwapNode r) g) old.number ≡ Some r = rw number (there_over node_key r g.nodes (ap (λ (o : Option NodeRecord). is_some o) found)) in
      record {
        suits = ap (λ (o : Option NodeRecord). is_some o) there;
        back = same_nodes g _ _ (over_again node_key r g.nodes 0 g.next_node old node_up found) refl;
      }

  -- the numbers of the edges ascend from 1 to the next one, which has 32 bits
  pub edge_up : Up edge_key 0 g.edges g.next_edge
  edge_up = (and_parts _ _ (edge_numbers g.nodes g.edges g.next_node g.next_edge one)).0

  next_edge_fits : nat_lt g.next_edge (2 ^ 32) ≡ true
  next_edge_fits = (and_parts (numbers_ascend 0 (map edge_key g.edges) g.next_edge) _ (edge_numbers g.nodes g.edges g.next_node g.next_edge one)).1

  pub new_edge_undone : (r : EdgeRecord) → suits (change.NewEdge r) g ≡ true → Undone g (change.NewEdge r) (change.UnEdge r.number)
  new_edge_undone r suit =
      let next : r.number.0 ≡ g.next_edge = equal _ _ (and_parts _ _ suit).0 in
      let none = none_above edge_key r.number.0 g.edges 0 g.next_edge edge_up (omega arith) in
      record {
        suits = and_from _ _ (eq-eqb (suc r.number.0) (suc g.next_edge) (ap suc next)) (there_at_end edge_key r g.edges);
        back = same_edges g _ _ (off_end edge_key r g.edges none) refl;
      }

  pub un_edge_undone : (n : EdgeId) (r : EdgeRecord) → suits (change.UnEdge n) g ≡ true → edge_of g n ≡ Some r → Undone g (change.UnEdge n) (change.NewEdge r)
  un_edge_undone n r suit found =
      let next : suc n.0 ≡ g.next_edge = equal _ _ (and_parts _ _ suit).0 in
      let number = found_key edge_key n.0 g.edges r found in
      let up : Up edge_key 0 g.edges (suc n.0) = rw next edge_up in
      let fits : nat_lt (suc (pred g.next_edge)) (2 ^ 32) ≡ true = rw (← next) (rw (← next) at next_edge_fits) in
      record {
        suits = and_from _ _ (eq-eqb r.number.0 (pred g.next_edge) (rw (← next) number)) fits;
        back = same_edges g _ _ (on_end edge_key n.0 g.edges 0 r up found) (rw (← next) refl);
      }

  pub out_edge_undone : (n : EdgeId) (r : EdgeRecord) → edge_of g n ≡ Some r → Undone g (change.OutEdge n) (change.BackEdge r)
  out_edge_undone n r found =
      let number = found_key edge_key n.0 g.edges r found in
      let none : edge_of (changed (change.OutEdge n) g) r.number ≡ None = rw number (not_there edge_key n.0 g.edges) in
      let below = found_below edge_key n.0 g.edges 0 g.next_edge r edge_up found in
      record {
        suits = and_from _ _ (ap (λ (o : Option EdgeRecord). not (is_some o)) none) (lower _ _ (omega arith));
        back = same_edges g _ _ (in_again edge_key n.0 g.edges 0 g.next_edge r edge_up found) refl;
      }

  pub back_edge_undone : (r : EdgeRecord) → suits (change.BackEdge r) g ≡ true → Undone g (change.BackEdge r) (change.OutEdge r.number)
  back_edge_undone r suit = record {
    suits = there_inside edge_key r g.edges;
    back = same_edges g _ _ (out_again edge_key r g.edges (missing _ (and_parts _ _ suit).0)) refl;
  }

  pub swap_edge_undone : (r old : EdgeRecord) → suits (change.SwapEdge r) g ≡ true → edge_of g r.number ≡ Some old → Undone g (change.SwapEdge r) (change.SwapEdge old)
  swap_edge_undone r old suit found =
      let number = found_key edge_key r.number.0 g.edges old found in
      let there : edge_of (changed (change.SwapEdge r) g) old.number ≡ Some r = rw number (there_over edge_key r g.edges (ap (λ (o : Option EdgeRecord). is_some o) found)) in
      let ends : same_ends old.ends r.ends ≡ true = rw found at suit in
      record {
        suits = rw there (same_ends-swapped old.ends r.ends ends);
        back = same_edges g _ _ (over_again edge_key r g.edges 0 g.next_edge old edge_up found) refl;
      }
