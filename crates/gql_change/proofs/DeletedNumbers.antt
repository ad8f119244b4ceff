-- Which numbers a deletion takes out: those that are collected are those of the elements that go, and in order they are
-- one list.
use Rattle.std.proofs.Common.{◌≡◌, ℕ, Bool, true, false, cond, eqb, ◌&&◌, List, [], ◌∷◌, ◌++◌, map, Some, refl, sym, ap, ◌∙◌}
use Rattle.std.proofs.lemmas.Bool.{and_parts}
use Rattle.std.specs.Prelude.{◌||◌, filter, find, is_some}
use Rattle.std.specs.List.{list_any, list_all, flat_map}
use Rattle.std.proofs.lemmas.List.Folds.{list_any-append}
use Rattle.gql_values3.specs.PropertyGraph.{PropertyGraph, is_graph, is_among, is_edge_record, are_ends, numbers_ascend, are_properties}
use Rattle.gql_values3.specs.Texts.{texts_ascend}
use Rattle.gql_values3.specs.Lookup.{edge_of, has_node, touches}
use Rattle.gql_values3.specs.declared.element.NodeId.{NodeId}
use Rattle.gql_values3.specs.declared.element.EdgeId.{EdgeId}
use Rattle.gql_values3.specs.declared.element.Elem.{Elem}
use Rattle.gql_values3.specs.declared.element.Elem.TheVariants as elem
use Rattle.gql_values3.specs.declared.element.Ends.{Ends}
use Rattle.gql_values3.specs.declared.element.Ends.TheVariants.{Directed, Undirected}
use Rattle.gql_values3.specs.declared.records.NodeRecord.{NodeRecord}
use Rattle.gql_values3.specs.declared.records.EdgeRecord.{EdgeRecord}
use Rattle.gql_values3.specs.Datum.{Datum}
use Rattle.gql_values3.proofs.BoolLemmas.{and_true}
use Rattle.std.specs.Prelude.{nat_lt, nat_le, ◌^◌}
use Rattle.gql_ast.specs.declared.change.Detachment.{Detachment}
use Rattle.gql_ast.specs.declared.change.Detachment.TheVariants as detachment
use Rattle.gql_graph.specs.Edits.{node_key, edge_key, has_edge}
use Rattle.gql_change.specs.Machinery.Rising.{rises}
use Rattle.gql_change.specs.Deletion.{is_named, end_is_named, edge_goes}
use Rattle.gql_change.specs.Machinery.DeletionSteps.{has_number, node_there, edge_there, touching_numbers, deleted_nodes, deleted_edges}
use Rattle.gql_change.proofs.RisingLemmas.{eqb_sym, eqb_same, same_numbers, rises_tail, rises_from_graph, rises-filter}
use Rattle.gql_change.proofs.TakingOut.{node_numbers, edge_numbers, edge_records, has_edge_if}

-- tests of pairs of tests
or_both : (a b t x y : Bool) → (((a || b) && t) || (x || y)) ≡ (((a && t) || x) || ((b && t) || y))
or_both true true true x y = refl
or_both true true false x y = refl
or_both true false true x y = refl
or_both true false false x y = refl
or_both false true true true y = refl
or_both false true true false y = refl
or_both false true false x y = refl
or_both false false t x y = refl

or_mixed : (a b x y : Bool) → ((a || b) || (x || y)) ≡ ((a || x) || (b || y))
or_mixed true b x y = refl
or_mixed false true true y = refl
or_mixed false true false y = refl
or_mixed false false x y = refl

named_case : (a t q r rest : Bool) → (t ≡ true → a ≡ q) → rest ≡ (q && r) → ((a && t) || rest) ≡ (q && (t || r))
named_case true true true r rest same h = refl
named_case true true false r rest same h = let e : true ≡ false = same refl in absurd (cc)
named_case false true true r rest same h = let e : false ≡ true = same refl in absurd (cc)
named_case false true false r rest same h = h
named_case true false q r rest same h = h
named_case false false q r rest same h = h

there_case : (h t nm hn rest : Bool) → (t ≡ true → h ≡ hn) → rest ≡ (nm && hn) → ((h && t) || rest) ≡ ((t || nm) && hn)
there_case true true nm true rest same r = refl
there_case true true nm false rest same r = let e : true ≡ false = same refl in absurd (cc)
there_case false true nm true rest same r = let e : false ≡ true = same refl in absurd (cc)
there_case false true true false rest same r = r
there_case false true false false rest same r = r
there_case true false nm hn rest same r = r
there_case false false nm hn rest same r = r

module _ {X : Type 0} where
  pub list_any_where : (t p q : X → Bool) → ((x : X) → t x ≡ true → p x ≡ q x) → (xs : List X) → list_all t xs ≡ true → list_any p xs ≡ list_any q xs
  list_any_where t p q same [] h = refl
  list_any_where t p q same (x ∷ xs) h =
      let here = same x ((and_parts (t x) (list_all t xs) h).0) in
      let rest = list_any_where t p q same xs ((and_parts (t x) (list_all t xs) h).1) in
      λ i. here i || rest i

  list_any_or : (p q t : X → Bool) (xs : List X) → list_any (λ x. (p x || q x) && t x) xs ≡ (list_any (λ x. p x && t x) xs || list_any (λ x. q x && t x) xs)
  list_any_or p q t [] = refl
  list_any_or p q t (x ∷ xs) =
      ap (λ b. ((p x || q x) && t x) || b) (list_any_or p q t xs) ∙ or_both (p x) (q x) (t x) (list_any (λ y. p y && t y) xs) (list_any (λ y. q y && t y) xs)

  list_any_either : (p q : X → Bool) (xs : List X) → list_any (λ x. p x || q x) xs ≡ (list_any p xs || list_any q xs)
  list_any_either p q [] = refl
  list_any_either p q (x ∷ xs) = ap (λ b. (p x || q x) || b) (list_any_either p q xs) ∙ or_mixed (p x) (q x) (list_any p xs) (list_any q xs)

  list_any_never : (xs : List X) → list_any (λ (x : X). false) xs ≡ false
  list_any_never [] = refl
  list_any_never (x ∷ xs) = list_any_never xs

module _ {X : Type 0} (key : X → ℕ) where
  -- which numbers the items have that pass
  pub has_passing : (p : X → Bool) (xs : List X) (n : ℕ) → has_number (map key (filter p xs)) n ≡ list_any (λ x. p x && eqb n (key x)) xs
  has_passing p [] n = refl
  has_passing p (x ∷ xs) n = by_case (p x) (has_passing p xs n)
    where
      by_case : (b : Bool) → has_number (map key (filter p xs)) n ≡ list_any (λ y. p y && eqb n (key y)) xs
          → has_number (map key (cond b (x ∷ filter p xs) (filter p xs))) n ≡ ((b && eqb n (key x)) || list_any (λ y. p y && eqb n (key y)) xs)
      by_case true h = ap (λ b. eqb n (key x) || b) h
      by_case false h = h

  -- a test of the number alone
  passing_number : (q : ℕ → Bool) (xs : List X) (n : ℕ) → list_any (λ x. q (key x) && eqb n (key x)) xs ≡ (q n && list_any (λ x. eqb n (key x)) xs)
  passing_number q [] n = none (q n)
    where
      none : (b : Bool) → false ≡ (b && false)
      none true = refl
      none false = refl
  passing_number q (x ∷ xs) n =
      named_case (q (key x)) (eqb n (key x)) (q n) (list_any (λ y. eqb n (key y)) xs) (list_any (λ y. q (key y) && eqb n (key y)) xs)
      (λ h. ap q (sym (eqb_same n (key x) h))) (passing_number q xs n)

  turned : (xs : List X) (n : ℕ) → list_any (λ x. eqb n (key x)) xs ≡ list_any (λ x. eqb (key x) n) xs
  turned [] n = refl
  turned (x ∷ xs) n = λ i. eqb_sym n (key x) i || turned xs n i

  found_there : (xs : List X) (n : ℕ) → is_some (find (λ x. eqb (key x) n) xs) ≡ list_any (λ x. eqb n (key x)) xs
  found_there [] n = refl
  found_there (x ∷ xs) n = by_case (eqb (key x) n) (eqb_sym (key x) n) (found_there xs n)
    where
      by_case : (b : Bool) → b ≡ eqb n (key x) → is_some (find (λ y. eqb (key y) n) xs) ≡ list_any (λ y. eqb n (key y)) xs
          → is_some (cond b (Some x) (find (λ y. eqb (key y) n) xs)) ≡ (eqb n (key x) || list_any (λ y. eqb n (key y)) xs)
      by_case true same h = ap (λ b. b || list_any (λ y. eqb n (key y)) xs) same
      by_case false same h = h ∙ ap (λ b. b || list_any (λ y. eqb n (key y)) xs) same

has_added : (b : Bool) (m : ℕ) (rest : List ℕ) (n : ℕ) → has_number (cond b (m ∷ []) [] ++ rest) n ≡ ((b && eqb n m) || has_number rest n)
has_added true m rest n = refl
has_added false m rest n = refl

module _ (g : PropertyGraph) where
  pub node_found : (n : ℕ) → has_node g (record { 0 = n }) ≡ list_any (λ (r : NodeRecord). eqb n (node_key r)) g.nodes
  node_found n = found_there node_key g.nodes n

  pub edge_found : (n : ℕ) → has_edge g (record { 0 = n }) ≡ list_any (λ (r : EdgeRecord). eqb n (edge_key r)) g.edges
  edge_found n = has_edge_if g (record { 0 = n }) (edge_of g (record { 0 = n })) refl ∙ found_there edge_key g.edges n

  has_nodes_there : (es : List Elem) (n : ℕ) → has_number (flat_map (node_there g) es) n ≡ (is_named es (elem.Node (record { 0 = n })) && has_node g (record { 0 = n }))
  has_nodes_there [] n = refl
  has_nodes_there (elem.Node m ∷ es) n =
      has_added (has_node g m) m.0 (flat_map (node_there g) es) n
      ∙ there_case (has_node g m) (eqb n m.0) (is_named es (elem.Node (record { 0 = n }))) (has_node g (record { 0 = n })) (has_number (flat_map (node_there g) es) n)
      (λ h. ap (λ k. has_node g (record { 0 = k })) (sym (eqb_same n m.0 h))) (has_nodes_there es n)
  has_nodes_there (elem.Edge e ∷ es) n = has_nodes_there es n

  has_edges_there : (es : List Elem) (n : ℕ) → has_number (flat_map (edge_there g) es) n ≡ (is_named es (elem.Edge (record { 0 = n })) && has_edge g (record { 0 = n }))
  has_edges_there [] n = refl
  has_edges_there (elem.Node m ∷ es) n = has_edges_there es n
  has_edges_there (elem.Edge e ∷ es) n =
      has_added (has_edge g e) e.0 (flat_map (edge_there g) es) n
      ∙ there_case (has_edge g e) (eqb n e.0) (is_named es (elem.Edge (record { 0 = n }))) (has_edge g (record { 0 = n })) (has_number (flat_map (edge_there g) es) n)
      (λ h. ap (λ k. has_edge g (record { 0 = k })) (sym (eqb_same n e.0 h))) (has_edges_there es n)

  -- a number that goes is named and there
  pub has_going_node : (es : List Elem) (n : ℕ) → has_number (deleted_nodes es g) n ≡ (is_named es (elem.Node (record { 0 = n })) && list_any (λ (r : NodeRecord). eqb n (node_key r)) g.nodes)
  has_going_node es n =
      has_passing node_key (λ (r : NodeRecord). is_named es (elem.Node r.number)) g.nodes n
      ∙ passing_number node_key (λ k. is_named es (elem.Node (record { 0 = k }))) g.nodes n

  pub has_named_edge : (es : List Elem) (n : ℕ) → list_any (λ (r : EdgeRecord). is_named es (elem.Edge r.number) && eqb n (edge_key r)) g.edges
      ≡ (is_named es (elem.Edge (record { 0 = n })) && list_any (λ (r : EdgeRecord). eqb n (edge_key r)) g.edges)
  has_named_edge es n = passing_number edge_key (λ k. is_named es (elem.Edge (record { 0 = k }))) g.edges n

-- edges on one of these nodes
abbrev touched : List ℕ → EdgeRecord → Bool
touched ms r = list_any (λ m. touches (record { 0 = m }) r) ms

numbers_twice : (rs : List EdgeRecord) → map (λ (e : EdgeId). e.0) (map (λ (r : EdgeRecord). r.number) rs) ≡ map edge_key rs
numbers_twice [] = refl
numbers_twice (r ∷ rs) = ap (λ l. r.number.0 ∷ l) (numbers_twice rs)

has_touching : (g : PropertyGraph) (ms : List ℕ) (n : ℕ) → has_number (flat_map (touching_numbers g) ms) n ≡ list_any (λ (r : EdgeRecord). touched ms r && eqb n (edge_key r)) g.edges
has_touching g [] n = sym (list_any_never g.edges)
has_touching g (m ∷ ms) n =
    list_any-append (λ k. eqb n k) (touching_numbers g m) (flat_map (touching_numbers g) ms)
    ∙ (λ i. (ap (λ l. has_number l n) (numbers_twice (filter (touches (record { 0 = m })) g.edges)) ∙ has_passing edge_key (touches (record { 0 = m })) g.edges n) i || has_touching g ms n i)
    ∙ sym (list_any_or (touches (record { 0 = m })) (touched ms) (λ (r : EdgeRecord). eqb n (edge_key r)) g.edges)

-- an edge touches one of the nodes that go where an end of it is named
module _ (g : PropertyGraph) (es : List Elem) where
  pub end_goes : (s : NodeId) → is_among g.nodes s ≡ true → has_number (deleted_nodes es g) s.0 ≡ is_named es (elem.Node s)
  end_goes s there =
      has_going_node g es s.0
      ∙ sym (and_true (is_named es (elem.Node s)) (list_any (λ (r : NodeRecord). eqb s.0 (node_key r)) g.nodes) (turned node_key g.nodes s.0 ∙ there))

  ends_touched : (number : EdgeId) (ends : Ends) (labels : List (List ℕ)) (properties : List (List ℕ × Datum)) → are_ends g.nodes ends ≡ true
      → touched (deleted_nodes es g) (record { number = number; ends = ends; labels = labels; properties = properties }) ≡ end_is_named es ends
  ends_touched number (Directed s t) labels properties there =
      list_any_either (λ m. eqb s.0 m) (λ m. eqb t.0 m) (deleted_nodes es g)
      ∙ (λ i. end_goes s ((and_parts (is_among g.nodes s) (is_among g.nodes t) there).0) i || end_goes t ((and_parts (is_among g.nodes s) (is_among g.nodes t) there).1) i)
  ends_touched number (Undirected s t) labels properties there =
      let both = (and_parts (is_among g.nodes s && is_among g.nodes t) (nat_le s.0 t.0) there).0 in
      list_any_either (λ m. eqb s.0 m) (λ m. eqb t.0 m) (deleted_nodes es g)
      ∙ (λ i. end_goes s ((and_parts (is_among g.nodes s) (is_among g.nodes t) both).0) i || end_goes t ((and_parts (is_among g.nodes s) (is_among g.nodes t) both).1) i)

  pub touched_named : (r : EdgeRecord) → is_edge_record g.nodes r ≡ true → touched (deleted_nodes es g) r ≡ end_is_named es r.ends
  touched_named r one = ends_touched r.number r.ends r.labels r.properties ((and_parts (texts_ascend r.labels && are_properties r.properties) (are_ends g.nodes r.ends) one).1)

module _ (g : PropertyGraph) (one : is_graph g ≡ true) (es : List Elem) where
  -- the numbers that go ascend
  pub nodes_rise : rises (deleted_nodes es g) ≡ true
  nodes_rise =
      rises_tail 0 (deleted_nodes es g) (rises-filter node_key (λ (r : NodeRecord). is_named es (elem.Node r.number)) 0 g.nodes
      (rises_from_graph 0 (map node_key g.nodes) g.next_node ((and_parts (numbers_ascend 0 (map node_key g.nodes) g.next_node) (nat_lt g.next_node (2 ^ 32)) (node_numbers g one)).0)))

  pub edges_rise : (d : Detachment) → rises (deleted_edges d es g) ≡ true
  edges_rise d =
      rises_tail 0 (deleted_edges d es g) (rises-filter edge_key (edge_goes d es) 0 g.edges
      (rises_from_graph 0 (map edge_key g.edges) g.next_edge ((and_parts (numbers_ascend 0 (map edge_key g.edges) g.next_edge) (nat_lt g.next_edge (2 ^ 32)) (edge_numbers g one)).0)))

  -- what is collected, in order, is what goes
  pub nodes_are_going : (ns : List ℕ) → rises ns ≡ true → ((n : ℕ) → has_number ns n ≡ has_number (flat_map (node_there g) es) n) → ns ≡ deleted_nodes es g
  nodes_are_going ns up same = same_numbers ns (deleted_nodes es g) up nodes_rise (λ n.
      same n ∙ has_nodes_there g es n ∙ ap (λ b. is_named es (elem.Node (record { 0 = n })) && b) (node_found g n) ∙ sym (has_going_node g es n))

  named_edges_go : (n : ℕ) → has_number (flat_map (edge_there g) es) n ≡ list_any (λ (r : EdgeRecord). is_named es (elem.Edge r.number) && eqb n (edge_key r)) g.edges
  named_edges_go n = has_edges_there g es n ∙ ap (λ b. is_named es (elem.Edge (record { 0 = n })) && b) (edge_found g n) ∙ sym (has_named_edge g es n)

  pub edges_are_going : (ns : List ℕ) → rises ns ≡ true → ((n : ℕ) → has_number ns n ≡ has_number (flat_map (edge_there g) es) n) → ns ≡ deleted_edges detachment.NoDetach es g
  edges_are_going ns up same = same_numbers ns (deleted_edges detachment.NoDetach es g) up (edges_rise detachment.NoDetach) (λ n.
      same n ∙ named_edges_go n ∙ sym (has_passing edge_key (edge_goes detachment.NoDetach es) g.edges n))

  pub all_are_going : (ns : List ℕ) → rises ns ≡ true
      → ((n : ℕ) → has_number ns n ≡ has_number (flat_map (edge_there g) es ++ flat_map (touching_numbers g) (deleted_nodes es g)) n) → ns ≡ deleted_edges detachment.Detach es g
  all_are_going ns up same = same_numbers ns (deleted_edges detachment.Detach es g) up (edges_rise detachment.Detach) (λ n.
      same n ∙ list_any-append (λ k. eqb n k) (flat_map (edge_there g) es) (flat_map (touching_numbers g) (deleted_nodes es g))
      ∙ (λ i. named_edges_go n i || (has_touching g (deleted_nodes es g) n
      ∙ list_any_where (is_edge_record g.nodes) (λ (r : EdgeRecord). touched (deleted_nodes es g) r && eqb n (edge_key r)) (λ (r : EdgeRecord). end_is_named es r.ends && eqb n (edge_key r))
      (λ r ok. ap (λ b. b && eqb n (edge_key r)) (touched_named g es r ok)) g.edges (edge_records g one)) i)
      ∙ sym (list_any_or (λ (r : EdgeRecord). is_named es (elem.Edge r.number)) (λ (r : EdgeRecord). end_is_named es r.ends) (λ (r : EdgeRecord). eqb n (edge_key r)) g.edges)
      ∙ sym (has_passing edge_key (edge_goes detachment.Detach es) g.edges n))
