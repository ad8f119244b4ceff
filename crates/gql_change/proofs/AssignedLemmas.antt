-- The graph behind acts. It is a graph, and the change that puts an element's acts on it leads from the graph behind all
-- acts on the others to the graph behind them all; so it does not matter in which order the elements come.
use Rattle.std.proofs.Common.{◌≡◌, ℕ, Bool, true, false, cond, not, List, [], ◌∷◌, map, refl, sym, ap, ◌∙◌, eqb-true, eq-eqb}
use Rattle.std.proofs.lemmas.Bool.{and_from, and_parts}
use Rattle.std.specs.Prelude.{◌&&◌, ◌==◌, filter, nat_le}
use Rattle.std.specs.List.{list_all, list_any, AllByRecursion}
use Rattle.gql_values3.specs.Meaning.{datum_of}
use Rattle.gql_values3.specs.Texts.{texts_ascend}
use Rattle.gql_values3.specs.PropertyGraph.{PropertyGraph, is_graph, is_storable, are_properties, are_numbers, are_nodes, are_edges, are_ends, is_node_record, is_edge_record}
use Rattle.gql_values3.specs.declared.element.Ends.{Ends}
use Rattle.gql_values3.specs.declared.element.Ends.TheVariants.{Directed, Undirected}
use Rattle.gql_values3.specs.declared.element.Elem.{Elem}
use Rattle.gql_values3.specs.declared.element.Elem.TheVariants as elem
use Rattle.gql_values3.specs.declared.records.NodeRecord.{NodeRecord}
use Rattle.gql_values3.specs.declared.records.EdgeRecord.{EdgeRecord}
use Rattle.gql_values3.specs.Lookup.{has_element}
use Rattle.gql_change.specs.Storing.{PropertyList}
use Rattle.gql_change.specs.Conflicts.{same_elem}
use Rattle.gql_change.specs.AssignedGraph.{acts_on, properties_after, labels_after, node_after, edge_after, assigned}
use Rattle.gql_change.specs.Machinery.Swaps.{act_fits, fits, all_fit, others}
use Rattle.gql_change.specs.declared.assignment.Act.{Act}
use Rattle.gql_change.specs.declared.assignment.Act.TheVariants as act
use Rattle.gql_change.specs.declared.assignment.Assignment.{Assignment}
use Rattle.gql_change.proofs.StoringLemmas.{texts_ascend-put_label, texts_ascend-without_label, are_properties-with}
use Rattle.gql_change.proofs.CopyLemmas.{nodes_fit, edges_fit}

-- Lists.

pub map-map : {A B C : Type 0} (f : A → B) (h : B → C) (xs : List A) → map h (map f xs) ≡ map (λ x. h (f x)) xs
map-map f h [] = refl
map-map f h (x ∷ xs) = ap (λ ys. h (f x) ∷ ys) (map-map f h xs)

pub map_same : {A B : Type 0} (f h : A → B) (xs : List A) → AllByRecursion (λ x. f x ≡ h x) xs → map f xs ≡ map h xs
map_same f h [] all = refl
map_same f h (x ∷ xs) all = λ i. all.0 i ∷ map_same f h xs all.1 i

list_all-map : {A B : Type 0} (p : A → Bool) (q : B → Bool) (f : A → B) (xs : List A) → ((x : A) → p x ≡ true → q (f x) ≡ true)
    → list_all p xs ≡ true → list_all q (map f xs) ≡ true
list_all-map p q f [] h all = refl
list_all-map p q f (x ∷ xs) h all =
    and_from (q (f x)) (list_all q (map f xs)) (h x ((and_parts (p x) (list_all p xs) all).0)) (list_all-map p q f xs h ((and_parts (p x) (list_all p xs) all).1))

list_any-map : {A B : Type 0} (q : B → Bool) (f : A → B) (xs : List A) → list_any q (map f xs) ≡ list_any (λ x. q (f x)) xs
list_any-map q f [] = refl
list_any-map q f (x ∷ xs) = rw (list_any-map q f xs) refl

pub all_weaker : {A : Type 0} (P Q : A → Type 0) (xs : List A) → ((x : A) → P x → Q x) → AllByRecursion P xs → AllByRecursion Q xs
all_weaker P Q [] h all = tt
all_weaker P Q (x ∷ xs) h all = (h x all.0, all_weaker P Q xs h all.1)

-- Elements.

pub same_elem_is : (a b : Elem) → same_elem a b ≡ true → a ≡ b
same_elem_is (elem.Node m) (elem.Node n) p = ap (λ (k : ℕ). elem.Node (record { 0 = k })) (eqb-true m.0 n.0 p)
same_elem_is (elem.Edge m) (elem.Edge n) p = ap (λ (k : ℕ). elem.Edge (record { 0 = k })) (eqb-true m.0 n.0 p)
same_elem_is (elem.Node m) (elem.Edge n) p = absurd (cc)
same_elem_is (elem.Edge m) (elem.Node n) p = absurd (cc)

pub same_elem_itself : (a : Elem) → same_elem a a ≡ true
same_elem_itself (elem.Node n) = eq-eqb n.0 n.0 refl
same_elem_itself (elem.Edge n) = eq-eqb n.0 n.0 refl

-- an element that is the one is not the other
not_both : (b c : Bool) (x e t : Elem) → same_elem x e ≡ b → same_elem x t ≡ c → same_elem e t ≡ false → (b && c) ≡ false
not_both true true x e t p q r =
    let one : x ≡ e = same_elem_is x e p in
    let two : same_elem e t ≡ true = ap (λ y. same_elem y t) (sym one) ∙ q in
    absurd (cc)
not_both true false x e t p q r = refl
not_both false c x e t p q r = refl

-- Acts.

kept_acts : (b c : Bool) (a : Assignment) (xs ys : List Assignment) (e : Elem) → same_elem a.target e ≡ b → (b && not c) ≡ b → acts_on e xs ≡ acts_on e ys
    → acts_on e (cond (not c) (a ∷ xs) xs) ≡ cond b (a.act ∷ acts_on e ys) (acts_on e ys)
kept_acts true true a xs ys e p q h = absurd (cc)
kept_acts true false a xs ys e p q h =
    ap (λ b. map (λ (z : Assignment). z.act) (cond b (a ∷ filter (λ (z : Assignment). same_elem z.target e) xs) (filter (λ (z : Assignment). same_elem z.target e) xs))) p
    ∙ ap (λ (l : List Act). a.act ∷ l) h
kept_acts false true a xs ys e p q h = h
kept_acts false false a xs ys e p q h =
    ap (λ b. map (λ (z : Assignment). z.act) (cond b (a ∷ filter (λ (z : Assignment). same_elem z.target e) xs) (filter (λ (z : Assignment). same_elem z.target e) xs))) p
    ∙ h

pub first_act : (b : Bool) (a : Assignment) (xs : List Assignment) (e : Elem) → same_elem a.target e ≡ b → acts_on e (a ∷ xs) ≡ cond b (a.act ∷ acts_on e xs) (acts_on e xs)
first_act true a xs e p =
    ap (λ b. map (λ (z : Assignment). z.act) (cond b (a ∷ filter (λ (z : Assignment). same_elem z.target e) xs) (filter (λ (z : Assignment). same_elem z.target e) xs))) p
first_act false a xs e p =
    ap (λ b. map (λ (z : Assignment). z.act) (cond b (a ∷ filter (λ (z : Assignment). same_elem z.target e) xs) (filter (λ (z : Assignment). same_elem z.target e) xs))) p

and_not : (b c : Bool) → (b && c) ≡ false → (b && not c) ≡ b
and_not true true p = absurd (cc)
and_not true false p = refl
and_not false c p = refl

-- what is done to one element is left where another's is taken out
pub acts_on-others : (e t : Elem) (xs : List Assignment) → same_elem e t ≡ false → acts_on e (others t xs) ≡ acts_on e xs
acts_on-others e t [] h = refl
acts_on-others e t (a ∷ xs) h =
    let b = same_elem a.target e in
    let c = same_elem a.target t in
    kept_acts b c a (others t xs) xs e refl (and_not b c (not_both b c a.target e t refl refl h)) (acts_on-others e t xs h)
    ∙ sym (first_act b a xs e refl)

-- what fits, fits one by one
pub acts_fit : (g : PropertyGraph) (e : Elem) (xs : List Assignment) → all_fit g xs ≡ true → list_all act_fits (acts_on e xs) ≡ true
acts_fit g e [] h = refl
acts_fit g e (a ∷ xs) h =
    by (same_elem a.target e) a.act (acts_on e xs) ((and_parts (has_element g a.target) (act_fits a.act) ((and_parts (fits g a) (all_fit g xs) h).0)).1)
    (acts_fit g e xs ((and_parts (fits g a) (all_fit g xs) h).1)) (first_act (same_elem a.target e) a xs e refl)
  where
    by : (b : Bool) (x : Act) (rest : List Act) → act_fits x ≡ true → list_all act_fits rest ≡ true → acts_on e (a ∷ xs) ≡ cond b (x ∷ rest) rest
        → list_all act_fits (acts_on e (a ∷ xs)) ≡ true
    by true x rest p q s = ap (list_all act_fits) s ∙ and_from (act_fits x) (list_all act_fits rest) p q
    by false x rest p q s = ap (list_all act_fits) s ∙ q

pub labels_after_ascend : (acts : List Act) (ls : List (List ℕ)) → texts_ascend ls ≡ true → texts_ascend (labels_after acts ls) ≡ true
labels_after_ascend [] ls h = h
labels_after_ascend (act.Property x a ∷ more) ls h = labels_after_ascend more ls h
labels_after_ascend (act.Label l ∷ more) ls h = labels_after_ascend more _ (texts_ascend-put_label l ls h)
labels_after_ascend (act.NoLabel l ∷ more) ls h = labels_after_ascend more _ (texts_ascend-without_label l ls h)

pub properties_after_fit : (acts : List Act) (ps : PropertyList) → list_all act_fits acts ≡ true → are_properties ps ≡ true → are_properties (properties_after acts ps) ≡ true
properties_after_fit [] ps k h = h
properties_after_fit (act.Property x a ∷ more) ps k h =
    properties_after_fit more _ ((and_parts (is_storable (datum_of a) 64) (list_all act_fits more) k).1)
    (are_properties-with x (datum_of a) ps ((and_parts (is_storable (datum_of a) 64) (list_all act_fits more) k).0) h)
properties_after_fit (act.Label l ∷ more) ps k h = properties_after_fit more ps k h
properties_after_fit (act.NoLabel l ∷ more) ps k h = properties_after_fit more ps k h

-- The graph behind acts is a graph.

abbrev pub node_with : List Assignment → NodeRecord → NodeRecord
node_with xs r = node_after (acts_on (elem.Node r.number) xs) r

abbrev pub edge_with : List Assignment → EdgeRecord → EdgeRecord
edge_with xs r = edge_after (acts_on (elem.Edge r.number) xs) r

ends_kept : (xs : List Assignment) (nodes : List NodeRecord) (ends : Ends) → are_ends (map (node_with xs) nodes) ends ≡ are_ends nodes ends
ends_kept xs nodes (Directed s t) =
    λ i. list_any-map (λ (r : NodeRecord). r.number.0 == s.0) (node_with xs) nodes i && list_any-map (λ (r : NodeRecord). r.number.0 == t.0) (node_with xs) nodes i
ends_kept xs nodes (Undirected l h) =
    λ i. list_any-map (λ (r : NodeRecord). r.number.0 == l.0) (node_with xs) nodes i && list_any-map (λ (r : NodeRecord). r.number.0 == h.0) (node_with xs) nodes i && nat_le l.0 h.0

module _ (g : PropertyGraph) (one : is_graph g ≡ true) where
  node_fits : (xs : List Assignment) → all_fit g xs ≡ true → (r : NodeRecord) → is_node_record r ≡ true → is_node_record (node_with xs r) ≡ true
  node_fits xs h r p =
      let acts = acts_on (elem.Node r.number) xs in
      and_from (texts_ascend (labels_after acts r.labels)) (are_properties (properties_after acts r.properties))
      (labels_after_ascend acts r.labels ((and_parts (texts_ascend r.labels) (are_properties r.properties) p).0))
      (properties_after_fit acts r.properties (acts_fit g (elem.Node r.number) xs h) ((and_parts (texts_ascend r.labels) (are_properties r.properties) p).1))

  edge_fits : (xs : List Assignment) → all_fit g xs ≡ true → (r : EdgeRecord) → is_edge_record g.nodes r ≡ true → is_edge_record (map (node_with xs) g.nodes) (edge_with xs r) ≡ true
  edge_fits xs h r p =
      let acts = acts_on (elem.Edge r.number) xs in
      let lists = (and_parts (texts_ascend r.labels && are_properties r.properties) (are_ends g.nodes r.ends) p).0 in
      and_from (texts_ascend (labels_after acts r.labels) && are_properties (properties_after acts r.properties)) (are_ends (map (node_with xs) g.nodes) r.ends)
      (and_from (texts_ascend (labels_after acts r.labels)) (are_properties (properties_after acts r.properties))
      (labels_after_ascend acts r.labels ((and_parts (texts_ascend r.labels) (are_properties r.properties) lists).0))
      (properties_after_fit acts r.properties (acts_fit g (elem.Edge r.number) xs h) ((and_parts (texts_ascend r.labels) (are_properties r.properties) lists).1)))
      (ends_kept xs g.nodes r.ends ∙ (and_parts (texts_ascend r.labels && are_properties r.properties) (are_ends g.nodes r.ends) p).1)

  pub node_numbers : are_numbers (map (λ (r : NodeRecord). r.number.0) g.nodes) g.next_node ≡ true
  node_numbers =
      (and_parts (are_numbers (map (λ (r : NodeRecord). r.number.0) g.nodes) g.next_node) (list_all is_node_record g.nodes) ((and_parts (are_nodes g.nodes g.next_node) (are_edges g.nodes g.edges g.next_edge) one).0)).0

  pub edge_numbers : are_numbers (map (λ (r : EdgeRecord). r.number.0) g.edges) g.next_edge ≡ true
  edge_numbers =
      (and_parts (are_numbers (map (λ (r : EdgeRecord). r.number.0) g.edges) g.next_edge) (list_all (is_edge_record g.nodes) g.edges) ((and_parts (are_nodes g.nodes g.next_node) (are_edges g.nodes g.edges g.next_edge) one).1)).0

  pub is_graph-assigned : (xs : List Assignment) → all_fit g xs ≡ true → is_graph (assigned xs g) ≡ true
  is_graph-assigned xs h =
      let nodes = map (node_with xs) g.nodes in
      let edges = map (edge_with xs) g.edges in
      and_from (are_nodes nodes g.next_node) (are_edges nodes edges g.next_edge)
      (and_from (are_numbers (map (λ (r : NodeRecord). r.number.0) nodes) g.next_node) (list_all is_node_record nodes)
      (ap (λ ns. are_numbers ns g.next_node) (map-map (node_with xs) (λ (r : NodeRecord). r.number.0) g.nodes) ∙ node_numbers)
      (list_all-map is_node_record is_node_record (node_with xs) g.nodes (node_fits xs h) (nodes_fit g one)))
      (and_from (are_numbers (map (λ (r : EdgeRecord). r.number.0) edges) g.next_edge) (list_all (is_edge_record nodes) edges)
      (ap (λ ns. are_numbers ns g.next_edge) (map-map (edge_with xs) (λ (r : EdgeRecord). r.number.0) g.edges) ∙ edge_numbers)
      (list_all-map (is_edge_record g.nodes) (is_edge_record nodes) (edge_with xs) g.edges (edge_fits xs h) (edges_fit g one)))
