-- A graph with one more node or edge of the next number is one, and changes that lead to it.
use Rattle.std.proofs.Common.{◌≡◌, ℕ, suc, ◌^◌, Bool, true, false, ◌&&◌, ◌||◌, List, [], ◌∷◌, ◌++◌, map, refl, ap, ◌∙◌, arith, nat_lt, nat_le, ◌==◌}
use Rattle.std.proofs.lemmas.Bool.{and_from, and_parts, or_left, or_right}
use Rattle.std.specs.List.{list_all}
use Rattle.std.proofs.lemmas.Bool.Decides.{nat_tests}
use Rattle.std.proofs.lemmas.List.{map-append}
use Rattle.gql_values3.specs.PropertyGraph.{PropertyGraph, numbers_ascend, are_numbers, is_among, are_ends, are_properties, is_node_record, is_edge_record, are_nodes, are_edges, is_graph}
use Rattle.gql_values3.specs.Texts.{texts_ascend}
use Rattle.gql_values3.specs.declared.element.NodeId.{NodeId}
use Rattle.gql_values3.specs.declared.element.Ends.{Ends}
use Rattle.gql_values3.specs.declared.element.Ends.TheVariants.{Directed, Undirected}
use Rattle.gql_values3.specs.declared.records.NodeRecord.{NodeRecord}
use Rattle.gql_values3.specs.declared.records.EdgeRecord.{EdgeRecord}
use Rattle.gql_graph.specs.Edits.{node_key, edge_key, can_act, changed, can_act_each, suits}
use Rattle.gql_graph.specs.declared.change.Change.{Change}
use Rattle.gql_graph.specs.declared.change.Change.TheVariants as change
use Rattle.gql_change.specs.Plans.{LeadTo}
use Rattle.gql_change.specs.Insertion.{is_used_up}
use Rattle.gql_change.proofs.TakingOut.{list_all_weaker, nodes_are, node_numbers, edge_numbers, edge_records}

-- one change more
pub leads_on : (g h : PropertyGraph) (cs : List Change) (c : Change) → LeadTo g cs h → can_act c h ≡ true → LeadTo g (cs ++ c ∷ []) (changed c h)
leads_on g h [] c l q = (and_from (can_act c g) true (ap (can_act c) l.1 ∙ q) refl, ap (changed c) l.1)
leads_on g h (d ∷ ds) c l q =
    let more : LeadTo (changed d g) (ds ++ c ∷ []) (changed c h) = leads_on (changed d g) h ds c ((and_parts (can_act d g) (can_act_each ds (changed d g)) l.0).1, l.1) q in
    (and_from (can_act d g) (can_act_each (ds ++ c ∷ []) (changed d g)) ((and_parts (can_act d g) (can_act_each ds (changed d g)) l.0).0) more.0, more.1)

-- numbers
below_next : (n : ℕ) → nat_lt n (suc n) ≡ true
below_next n = grind (arith, nat_tests)

same_number : (m n : ℕ) → m ≡ n → (m == n) ≡ true
same_number m n h = grind (arith, nat_tests, h)

room_left : (n : ℕ) → is_used_up n ≡ false → nat_lt (suc n) (2 ^ 32) ≡ true
room_left n h = grind (arith, nat_tests, h)

ascend_next : (low : ℕ) (ns : List ℕ) (next : ℕ) → numbers_ascend low ns next ≡ true → numbers_ascend low (ns ++ next ∷ []) (suc next) ≡ true
ascend_next low [] next h = and_from (nat_lt low next) (nat_lt next (suc next)) h (below_next next)
ascend_next low (n ∷ ns) next h =
    and_from (nat_lt low n) (numbers_ascend n (ns ++ next ∷ []) (suc next)) ((and_parts (nat_lt low n) (numbers_ascend n ns next) h).0)
    (ascend_next n ns next ((and_parts (nat_lt low n) (numbers_ascend n ns next) h).1))

module _ {X : Type 0} (key : X → ℕ) where
  numbers_next : (xs : List X) (x : X) (next : ℕ) → key x ≡ next → is_used_up next ≡ false → are_numbers (map key xs) next ≡ true → are_numbers (map key (xs ++ x ∷ [])) (suc next) ≡ true
  numbers_next xs x next same room h =
      and_from (numbers_ascend 0 (map key (xs ++ x ∷ [])) (suc next)) (nat_lt (suc next) (2 ^ 32))
      (ap (λ ns. numbers_ascend 0 ns (suc next)) (map-append key xs (x ∷ []) ∙ ap (λ n. map key xs ++ n ∷ []) same)
      ∙ ascend_next 0 (map key xs) next ((and_parts (numbers_ascend 0 (map key xs) next) (nat_lt next (2 ^ 32)) h).0))
      (room_left next room)

all_on : {X : Type 0} (p : X → Bool) (xs : List X) (x : X) → list_all p xs ≡ true → p x ≡ true → list_all p (xs ++ x ∷ []) ≡ true
all_on p [] x h q = and_from (p x) true q refl
all_on p (y ∷ ys) x h q = and_from (p y) (list_all p (ys ++ x ∷ [])) ((and_parts (p y) (list_all p ys) h).0) (all_on p ys x ((and_parts (p y) (list_all p ys) h).1) q)

-- a node that is there stays, and the new one is there
either : (b r s : Bool) → (r ≡ true → s ≡ true) → (b || r) ≡ true → (b || s) ≡ true
either true r s f h = refl
either false r s f h = f h

pub among_on : (nodes : List NodeRecord) (r : NodeRecord) (n : NodeId) → is_among nodes n ≡ true → is_among (nodes ++ r ∷ []) n ≡ true
among_on [] r n h = absurd (cc)
among_on (s ∷ ss) r n h = either (s.number.0 == n.0) (is_among ss n) (is_among (ss ++ r ∷ []) n) (among_on ss r n) h

pub among_new : (nodes : List NodeRecord) (r : NodeRecord) (n : NodeId) → r.number.0 ≡ n.0 → is_among (nodes ++ r ∷ []) n ≡ true
among_new [] r n h = or_left (r.number.0 == n.0) false (same_number r.number.0 n.0 h)
among_new (s ∷ ss) r n h = or_right (s.number.0 == n.0) (is_among (ss ++ r ∷ []) n) (among_new ss r n h)

module _ (nodes more : List NodeRecord) (kept : (n : NodeId) → is_among nodes n ≡ true → is_among more n ≡ true) where
  ends_stay : (e : Ends) → are_ends nodes e ≡ true → are_ends more e ≡ true
  ends_stay (Directed s t) h =
      and_from (is_among more s) (is_among more t) (kept s ((and_parts (is_among nodes s) (is_among nodes t) h).0)) (kept t ((and_parts (is_among nodes s) (is_among nodes t) h).1))
  ends_stay (Undirected l m) h =
      let two = (and_parts (is_among nodes l && is_among nodes m) (nat_le l.0 m.0) h).0 in
      and_from (is_among more l && is_among more m) (nat_le l.0 m.0)
      (and_from (is_among more l) (is_among more m) (kept l ((and_parts (is_among nodes l) (is_among nodes m) two).0)) (kept m ((and_parts (is_among nodes l) (is_among nodes m) two).1)))
      ((and_parts (is_among nodes l && is_among nodes m) (nat_le l.0 m.0) h).1)

  edge_stays : (r : EdgeRecord) → is_edge_record nodes r ≡ true → is_edge_record more r ≡ true
  edge_stays r h =
      and_from (texts_ascend r.labels && are_properties r.properties) (are_ends more r.ends)
      ((and_parts (texts_ascend r.labels && are_properties r.properties) (are_ends nodes r.ends) h).0)
      (ends_stay r.ends ((and_parts (texts_ascend r.labels && are_properties r.properties) (are_ends nodes r.ends) h).1))

module _ (g : PropertyGraph) (one : is_graph g ≡ true) where
  pub node_can_act : (r : NodeRecord) → is_used_up g.next_node ≡ false → is_node_record r ≡ true → r.number.0 ≡ g.next_node → can_act (change.NewNode r) g ≡ true
  node_can_act r room fit same =
      let records = (and_parts (are_numbers (map node_key g.nodes) g.next_node) (list_all is_node_record g.nodes) (nodes_are g one)).1 in
      and_from (suits (change.NewNode r) g) (is_graph (changed (change.NewNode r) g))
      (and_from (r.number.0 == g.next_node) (nat_lt (suc g.next_node) (2 ^ 32)) (same_number r.number.0 g.next_node same) (room_left g.next_node room))
      (and_from (are_nodes (g.nodes ++ r ∷ []) (suc g.next_node)) (are_edges (g.nodes ++ r ∷ []) g.edges g.next_edge)
      (and_from (are_numbers (map node_key (g.nodes ++ r ∷ [])) (suc g.next_node)) (list_all is_node_record (g.nodes ++ r ∷ []))
      (numbers_next node_key g.nodes r g.next_node same room (node_numbers g one)) (all_on is_node_record g.nodes r records fit))
      (and_from (are_numbers (map edge_key g.edges) g.next_edge) (list_all (is_edge_record (g.nodes ++ r ∷ [])) g.edges)
      (edge_numbers g one)
      (list_all_weaker (is_edge_record g.nodes) (is_edge_record (g.nodes ++ r ∷ [])) (edge_stays g.nodes (g.nodes ++ r ∷ []) (λ n. among_on g.nodes r n)) g.edges (edge_records g one))))

  pub edge_can_act : (r : EdgeRecord) → is_used_up g.next_edge ≡ false → is_edge_record g.nodes r ≡ true → r.number.0 ≡ g.next_edge → can_act (change.NewEdge r) g ≡ true
  edge_can_act r room fit same =
      and_from (suits (change.NewEdge r) g) (is_graph (changed (change.NewEdge r) g))
      (and_from (r.number.0 == g.next_edge) (nat_lt (suc g.next_edge) (2 ^ 32)) (same_number r.number.0 g.next_edge same) (room_left g.next_edge room))
      (and_from (are_nodes g.nodes g.next_node) (are_edges g.nodes (g.edges ++ r ∷ []) (suc g.next_edge)) (nodes_are g one)
      (and_from (are_numbers (map edge_key (g.edges ++ r ∷ [])) (suc g.next_edge)) (list_all (is_edge_record g.nodes) (g.edges ++ r ∷ []))
      (numbers_next edge_key g.edges r g.next_edge same room (edge_numbers g one)) (all_on (is_edge_record g.nodes) g.edges r (edge_records g one) fit)))

-- a change of a graph leaves one
pub still_graph : (c : Change) (g : PropertyGraph) → can_act c g ≡ true → is_graph (changed c g) ≡ true
still_graph c g h = (and_parts (suits c g) (is_graph (changed c g)) h).1
