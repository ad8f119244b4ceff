-- INSERT by places makes what the definition makes by names: the changes so far lead to the definition's graph, and what
-- is left of a row's spots says the same of it as the names do. Each node that a later spot refers to is one of the graph
-- so far, since it was looked at or made; so each edge has its nodes.
use Rattle.std.proofs.Common.{◌≡◌, ℕ, suc, ◌+◌, ◌<◌, Bool, true, false, cond, List, [], ◌∷◌, ◌++◌, length, Option, Some, None, Ok, Err, refl, sym, ap, ◌∙◌, arith, length-append, ◌==◌, ◌&&◌, is_some, nat_le, nat_lt, ◌⊎◌, inl, inr}
use Rattle.std.proofs.lemmas.Bool.{and_from, or_left, or_right}
use Rattle.std.specs.List.{list_all}
use Rattle.std.proofs.lemmas.Bool.Decides.{nat_tests}
use Rattle.gql_values3.specs.Datum.{Datum, null, node, edge}
use Rattle.gql_values3.specs.PropertyGraph.{PropertyGraph, is_among, is_graph, is_storable, are_ends}
use Rattle.gql_values3.specs.declared.element.NodeId.{NodeId}
use Rattle.gql_values3.specs.declared.element.Ends.TheVariants.{Undirected}
use Rattle.gql_values3.specs.declared.records.NodeRecord.{NodeRecord}
use Rattle.gql_values3.specs.declared.table.ColumnKind.{ColumnKind}
use Rattle.gql_values3.specs.declared.table.ColumnKind.TheVariants as kind
use Rattle.gql_ast.specs.ClauseColumns.{ColumnList, is_column}
use Rattle.gql_ast.specs.InsertColumns.{Spots, with_variable}
use Rattle.gql_ast.specs.Endpoints.{wrong_endpoint, wrong_in_spots}
use Rattle.gql_ast.specs.declared.change.Arrow.{Arrow}
use Rattle.gql_ast.specs.declared.change.Arrow.TheVariants as arrow
use Rattle.gql_ast.specs.declared.change.Fill.{Fill}
use Rattle.gql_ast.specs.declared.filler.MapItem.{MapItem}
use Rattle.gql_ast.specs.declared.refusal.ElemKind.{ElemKind}
use Rattle.gql_ast.specs.declared.refusal.ElemKind.TheVariants as sort
use Rattle.gql_eval.specs.Machinery.Places.{place_among}
use Rattle.gql_eval.proofs.ScopeLemmas.{place_below}
use Rattle.gql_graph.specs.Edits.{with_nodes, can_act}
use Rattle.gql_graph.specs.declared.change.Change.{Change}
use Rattle.gql_graph.specs.declared.change.Change.TheVariants as change
use Rattle.gql_change.specs.Plans.{LeadTo}
use Rattle.gql_change.specs.Storing.{PropertyList}
use Rattle.gql_change.specs.Insertion.{Making, OrFull, ◌>>>◌, is_used_up, first_values, later_values, labels_given, node_number, new_node, number_under, make_node, past_spot, ends_between}
use Rattle.gql_change.specs.Machinery.Roles.{Question, questions, datum_at, role_at, role_of}
use Rattle.gql_change.specs.Machinery.InsertByPlaces.{insert_node, node_of_spot, gives_column, with_node, edge_begun, properties_given, longer_row}
use Rattle.gql_change.specs.declared.role.Role.{Role}
use Rattle.gql_change.specs.declared.role.Role.TheVariants as role
use Rattle.gql_change.specs.declared.row_spots.Spot.{Spot}
use Rattle.gql_change.specs.declared.row_spots.Spot.TheVariants as spot
use Rattle.gql_change.specs.declared.insert_state.InsertState.{InsertState}
use Rattle.gql_change.proofs.PlaceOfName.{column_placed}
use Rattle.gql_change.proofs.StoringLemmas.{texts_ascend-label_set, are_properties-property_set}
use Rattle.gql_change.proofs.GraphGrowth.{leads_on, among_on, among_new, node_can_act, still_graph}
use Rattle.gql_change.proofs.NamedPlaces.{datum_named, datum_before, datum_last, kind_at, kind_last, back_empty, refers_to, is_reference, edge_not_referred}

-- What a row says of the spots that are left.
abbrev pub spot_with : Role → PropertyList → Spot
spot_with (role.Refers i) ps = spot.Refers i
spot_with (role.New named) ps = spot.New named ps

abbrev pub spots_with : List Question → List PropertyList → List Spot
spots_with [] vs = []
spots_with (q ∷ qs) vs = spot_with q.0 (first_values vs) ∷ spots_with qs (later_values vs)

abbrev pub state_with : List Change → Making → Spots → InsertState
state_with cs m ss = record {
  changes = cs;
  next_node = m.graph.next_node;
  next_edge = m.graph.next_edge;
  row = m.row;
  spots = spots_with (questions m.columns ss) m.values;
}

-- a node that is there
abbrev pub IsNodeIn : PropertyGraph → Datum → Type 0
IsNodeIn g d = (n : ℕ) × (d ≡ node n) × (is_among g.nodes (record { 0 = n }) ≡ true)

-- the values that a spot gives may be kept
abbrev pub are_kept : PropertyList → Bool
are_kept ps = list_all (λ (p : List ℕ × Datum). is_storable p.1 64) ps

abbrev pub all_kept : List PropertyList → Bool
all_kept [] = true
all_kept (ps ∷ pss) = cond (are_kept ps) (all_kept pss) false

pub first_kept : (vs : List PropertyList) → all_kept vs ≡ true → are_kept (first_values vs) ≡ true
first_kept [] h = refl
first_kept (ps ∷ pss) h = by (are_kept ps) h
  where
    by : (b : Bool) → cond b (all_kept pss) false ≡ true → b ≡ true
    by true p = refl
    by false p = absurd (cc)

pub later_kept : (vs : List PropertyList) → all_kept vs ≡ true → all_kept (later_values vs) ≡ true
later_kept [] h = refl
later_kept (ps ∷ pss) h = by (are_kept ps) h
  where
    by : (b : Bool) → cond b (all_kept pss) false ≡ true → all_kept pss ≡ true
    by true p = p
    by false p = absurd (cc)

-- nodes that spots refer to are there
abbrev pub Sure : PropertyGraph → List Datum → List Question → Type 0
Sure g row qs = (i : ℕ) → refers_to i qs ≡ true → i < length row → IsNodeIn g (datum_at row i)

-- Two makings agree: the same refusal, or what belongs together.
abbrev pub Agrees : {A B : Type 0} → (A → B → Type 0) → OrFull A → OrFull B → Type 0
Agrees P (Ok x) (Ok y) = P x y
Agrees P (Err j) (Err k) = j ≡ k
Agrees P (Ok x) (Err k) = ⊥
Agrees P (Err j) (Ok y) = ⊥

pub then_agrees : {A B C D : Type 0} (P : A → B → Type 0) (Q : C → D → Type 0) (r : OrFull A) (q : OrFull B) (f : A → OrFull C) (h : B → OrFull D)
    → Agrees P r q → ((x : A) (y : B) → P x y → Agrees Q (f x) (h y)) → Agrees Q (r >>> f) (q >>> h)
then_agrees P Q (Ok x) (Ok y) f h p more = more x y p
then_agrees P Q (Err j) (Err k) f h p more = p
then_agrees P Q (Ok x) (Err k) f h p more = absurd p
then_agrees P Q (Err j) (Ok y) f h p more = absurd p

pub unless_used_up : {A B : Type 0} (P : A → B → Type 0) (used : Bool) (k : ElemKind) (x : OrFull A) (y : OrFull B) → (used ≡ false → Agrees P x y)
    → Agrees P (cond used (Err k) x) (cond used (Err k) y)
unless_used_up P true k x y h = refl
unless_used_up P false k x y h = h refl

at_most : (i n : ℕ) → i < suc n → (i < n) ⊎ (i ≡ n)
at_most i n h = by (nat_lt i n) refl
  where
    by : (b : Bool) → nat_lt i n ≡ b → (i < n) ⊎ (i ≡ n)
    by true e = inl (grind (arith, nat_tests, e))
    by false e = inr (grind (arith, nat_tests, e))

module _ (g0 : PropertyGraph) where
  pub record Good (m : Making) (cs : List Change) (ss : Spots) : Type 0 where
    pub leads : LeadTo g0 cs m.graph
    pub graph : is_graph m.graph ≡ true
    pub width : length m.row ≡ length m.columns
    pub kinds : wrong_in_spots m.columns ss ≡ []
    pub sure : Sure m.graph m.row (questions m.columns ss)
    pub storable : all_kept m.values ≡ true
    pub kept : (n : NodeId) → is_among g0.nodes n ≡ true → is_among m.graph.nodes n ≡ true

  -- behind a node: its number is a node's
  pub record Behind (ss : Spots) (x : InsertState × ℕ) (y : Making × ℕ) : Type 0 where
    pub changes : List Change
    pub state : x.0 ≡ state_with changes y.0 ss
    pub number : x.1 ≡ y.1
    pub good : Good y.0 changes ss
    pub there : is_among y.0.graph.nodes (record { 0 = y.1 }) ≡ true

  -- and behind a node the numbers of edges are those before, and so are the nodes that were there
  pub record AtNode (m : Making) (ss : Spots) (x : InsertState × ℕ) (y : Making × ℕ) : Type 0 where
    pub behind : Behind ss x y
    pub edges : y.0.graph.next_edge ≡ m.graph.next_edge
    pub more : (n : NodeId) → is_among m.graph.nodes n ≡ true → is_among y.0.graph.nodes n ≡ true

  -- a new node
  node_joins : (m : Making) (cs : List Change) (ss0 : Spots) (f : Fill) → Good m cs ss0 → is_used_up m.graph.next_node ≡ false → can_act (change.NewNode (new_node m f)) m.graph ≡ true
  node_joins m cs ss0 f good room =
      node_can_act m.graph good.graph (new_node m f) room
      (and_from _ _ (texts_ascend-label_set (labels_given f.labels)) (are_properties-property_set (first_values m.values) (first_kept m.values good.storable))) refl

  abbrev grown : Making → Fill → PropertyGraph
  grown m f = with_nodes m.graph (m.graph.nodes ++ new_node m f ∷ []) (suc m.graph.next_node)

  node_stays : (m : Making) (f : Fill) (d : Datum) → IsNodeIn m.graph d → IsNodeIn (grown m f) d
  node_stays m f d h = (h.0, h.1, among_on m.graph.nodes (new_node m f) (record { 0 = h.0 }) h.2)

  abbrev made_node : Making → Fill → ColumnList → List Datum → Making
  made_node m f columns row = record { graph = grown m f; columns = columns; row = row; values = later_values m.values }

  new_node_behind : (m : Making) (cs : List Change) (ss0 ss : Spots) (f : Fill) (named : Bool) (columns : ColumnList) → Good m cs ss0 → is_used_up m.graph.next_node ≡ false
      → wrong_in_spots columns ss ≡ [] → length (longer_row named m.row (node m.graph.next_node)) ≡ length columns
      → Sure m.graph m.row (questions columns ss)
      → AtNode m ss
      (with_node named f (first_values m.values) (record { changes = cs; next_node = m.graph.next_node; next_edge = m.graph.next_edge; row = m.row; spots = spots_with (questions columns ss) (later_values m.values) }), m.graph.next_node)
      (made_node m f columns (longer_row named m.row (node m.graph.next_node)), m.graph.next_node)
  new_node_behind m cs ss0 ss f named columns good room kinds wide sure =
      let acts = node_joins m cs ss0 f good room in
      record {
        behind = record {
          changes = cs ++ change.NewNode (new_node m f) ∷ [];
          state = let more : m.graph.next_node + 1 ≡ suc m.graph.next_node = omega arith in ap counted more;
          number = refl;
          good = record {
            leads = leads_on g0 m.graph cs (change.NewNode (new_node m f)) good.leads acts;
            graph = still_graph (change.NewNode (new_node m f)) m.graph acts;
            width = wide;
            kinds = kinds;
            sure = surely named;
            storable = later_kept m.values good.storable;
            kept = λ n h. among_on m.graph.nodes (new_node m f) n (good.kept n h);
          };
          there = among_new m.graph.nodes (new_node m f) (record { 0 = m.graph.next_node }) refl;
        };
        edges = refl;
        more = λ n h. among_on m.graph.nodes (new_node m f) n h;
      }
    where
      counted : ℕ → InsertState
      counted n = record {
        changes = cs ++ change.NewNode (new_node m f) ∷ [];
        next_node = n;
        next_edge = m.graph.next_edge;
        row = longer_row named m.row (node m.graph.next_node);
        spots = spots_with (questions columns ss) (later_values m.values);
      }

      at_end : (i : ℕ) → (i < length m.row) ⊎ (i ≡ length m.row) → refers_to i (questions columns ss) ≡ true → IsNodeIn (grown m f) (datum_at (m.row ++ node m.graph.next_node ∷ []) i)
      at_end i (inl h) r = let was : IsNodeIn (grown m f) (datum_at m.row i) = node_stays m f (datum_at m.row i) (sure i r h) in (was.0, datum_before m.row (node m.graph.next_node) i h ∙ was.1, was.2)
      at_end i (inr h) r = (m.graph.next_node, datum_last m.row (node m.graph.next_node) i h, among_new m.graph.nodes (new_node m f) (record { 0 = m.graph.next_node }) refl)

      surely : (b : Bool) → Sure (grown m f) (longer_row b m.row (node m.graph.next_node)) (questions columns ss)
      surely false i r h = node_stays m f (datum_at m.row i) (sure i r h)
      surely true i r h = at_end i (at_most i (length m.row) (omega (arith, length-append m.row (node m.graph.next_node ∷ [])))) r

  abbrev pub fill : Option (List ℕ) → Option (List (List ℕ)) → Option (List MapItem) → Fill
  fill v ls is = record { variable = v; labels = ls; map = is }

  -- a variable that is a column's or not, with its place
  abbrev columns_by : Bool → ColumnList → ColumnKind → List ℕ → ColumnList
  columns_by b cs k x = cond b cs (cs ++ (x, k) ∷ [])

  abbrev row_by : Bool → List Datum → Datum → List Datum
  row_by b row d = cond b row (row ++ d ∷ [])

  longer : (row : List Datum) (d : Datum) (cs : ColumnList) (c : List ℕ × ColumnKind) → length row ≡ length cs → length (row ++ d ∷ []) ≡ length (cs ++ c ∷ [])
  longer row d cs c h = omega (arith, length-append row (d ∷ []), length-append cs (c ∷ []), h)

  equal_number : (n : ℕ) → (n == n) ≡ true
  equal_number n = grind (arith, nat_tests)

  module _ (m : Making) (cs : List Change) (ss : Spots) (x : List ℕ) (ls : Option (List (List ℕ))) (is : Option (List MapItem)) where
    abbrev named_work : Bool → Option ℕ → OrFull (InsertState × ℕ)
    named_work b o = node_of_spot (spot_with (role_at kind.Node o) (first_values m.values)) (fill (Some x) ls is) (record {
      changes = cs;
      next_node = m.graph.next_node;
      next_edge = m.graph.next_edge;
      row = m.row;
      spots = spots_with (questions (columns_by b m.columns kind.Node x) ss) (later_values m.values);
    })

    abbrev named_making : Bool → OrFull (Making × ℕ)
    named_making b =
        cond b (Ok (record { graph = m.graph; columns = columns_by b m.columns kind.Node x; row = row_by b m.row null; values = later_values m.values }, number_under m (Some x)))
        (cond (is_used_up m.graph.next_node) (Err sort.Node)
        (Ok (made_node m (fill (Some x) ls is) (columns_by b m.columns kind.Node x) (row_by b m.row (node m.graph.next_node)), m.graph.next_node)))

    -- a node that stands already
    referred : (i : ℕ) (ss0 : Spots) → Good m cs ss0 → place_among m.columns x ≡ Some i → wrong_in_spots m.columns ss ≡ []
        → Sure m.graph m.row ((role.Refers i, []) ∷ questions m.columns ss) → Agrees (AtNode m ss) (named_work true (Some i)) (named_making true)
    referred i ss0 good place kinds sure =
        let it : IsNodeIn m.graph (datum_at m.row i) = sure i (or_left (i == i) (refers_to i (questions m.columns ss)) (equal_number i)) (omega (arith, place_below m.columns x i place, good.width)) in
        let named : number_under m (Some x) ≡ node_number (datum_at m.row i) = ap node_number (datum_named m.columns m.row x i place) in
        record {
          behind = record {
            changes = cs;
            state = refl;
            number = sym named;
            good = record {
              leads = good.leads;
              graph = good.graph;
              width = good.width;
              kinds = kinds;
              sure = λ j r h. sure j (or_right (j == i) (refers_to j (questions m.columns ss)) r) h;
              storable = later_kept m.values good.storable;
              kept = good.kept;
            };
            there = ap (λ (k : ℕ). is_among m.graph.nodes (record { 0 = k })) (named ∙ ap node_number it.1) ∙ it.2;
          };
          edges = refl;
          more = λ n h. h;
        }

    named_agrees : (b : Bool) (o : Option ℕ) (ss0 : Spots) → Good m cs ss0 → place_among m.columns x ≡ o → b ≡ is_some o → wrong_in_spots (columns_by b m.columns kind.Node x) ss ≡ []
        → Sure m.graph m.row ((role_at kind.Node o, []) ∷ questions (columns_by b m.columns kind.Node x) ss) → Agrees (AtNode m ss) (named_work b o) (named_making b)
    named_agrees true (Some i) ss0 good place same kinds sure = referred i ss0 good place kinds sure
    named_agrees true None ss0 good place same kinds sure = absurd (cc)
    named_agrees false (Some i) ss0 good place same kinds sure = absurd (cc)
    named_agrees false None ss0 good place same kinds sure =
        unless_used_up (AtNode m ss) (is_used_up m.graph.next_node) sort.Node
        (Ok (
          with_node true (fill (Some x) ls is) (first_values m.values) (record {
            changes = cs;
            next_node = m.graph.next_node;
            next_edge = m.graph.next_edge;
            row = m.row;
            spots = spots_with (questions (m.columns ++ (x, kind.Node) ∷ []) ss) (later_values m.values);
          }),
          m.graph.next_node,
        ))
        (Ok (made_node m (fill (Some x) ls is) (m.columns ++ (x, kind.Node) ∷ []) (m.row ++ node m.graph.next_node ∷ []), m.graph.next_node))
        (λ room. new_node_behind m cs ss0 ss (fill (Some x) ls is) true (m.columns ++ (x, kind.Node) ∷ []) good room kinds
        (longer m.row (node m.graph.next_node) m.columns (x, kind.Node) good.width) sure)

    -- the spot of an edge
    abbrev edge_work : Bool → Option ℕ → InsertState
    edge_work b o = record {
      changes = cs;
      next_node = m.graph.next_node;
      next_edge = m.graph.next_edge;
      row = longer_row (gives_column (spot_with (role_at kind.Edge o) (first_values m.values))) m.row (edge m.graph.next_edge);
      spots = spots_with (questions (columns_by b m.columns kind.Edge x) ss) (later_values m.values);
    }

    abbrev edge_making : Bool → Making
    edge_making b = record { graph = m.graph; columns = columns_by b m.columns kind.Edge x; row = row_by b m.row (edge m.graph.next_edge); values = later_values m.values }

    edge_named : (b : Bool) (o : Option ℕ) (ss0 : Spots) → Good m cs ss0 → b ≡ is_some o → wrong_in_spots (columns_by b m.columns kind.Edge x) ss ≡ []
        → Sure m.graph m.row (questions (columns_by b m.columns kind.Edge x) ss) → (edge_work b o ≡ state_with cs (edge_making b) ss) × Good (edge_making b) cs ss
    edge_named true None ss0 good same kinds sure = absurd (cc)
    edge_named false (Some i) ss0 good same kinds sure = absurd (cc)
    edge_named true (Some i) ss0 good same kinds sure = (
      refl,
      record {
        leads = good.leads;
        graph = good.graph;
        width = good.width;
        kinds = kinds;
        sure = sure;
        storable = later_kept m.values good.storable;
        kept = good.kept;
      },
    )
    edge_named false None ss0 good same kinds sure = (
      refl,
      record {
        leads = good.leads;
        graph = good.graph;
        width = longer m.row (edge m.graph.next_edge) m.columns (x, kind.Edge) good.width;
        kinds = kinds;
        sure = λ i r h. at_end i (at_most i (length m.row) (omega (arith, length-append m.row (edge m.graph.next_edge ∷ []), h))) r;
        storable = later_kept m.values good.storable;
        kept = good.kept;
      },
    )
      where
        unreferred : (i : ℕ) → i ≡ length m.columns → refers_to i (questions (m.columns ++ (x, kind.Edge) ∷ []) ss) ≡ false
        unreferred i h = edge_not_referred i (m.columns ++ (x, kind.Edge) ∷ []) ss (ap (kind_at (m.columns ++ (x, kind.Edge) ∷ [])) h ∙ kind_last m.columns (x, kind.Edge)) kinds

        at_end : (i : ℕ) → (i < length m.row) ⊎ (i ≡ length m.row) → refers_to i (questions (m.columns ++ (x, kind.Edge) ∷ []) ss) ≡ true → IsNodeIn m.graph (datum_at (m.row ++ edge m.graph.next_edge ∷ []) i)
        at_end i (inl h) r = let was : IsNodeIn m.graph (datum_at m.row i) = sure i r h in (was.0, datum_before m.row (edge m.graph.next_edge) i h ∙ was.1, was.2)
        at_end i (inr h) r = absurd (let e : true ≡ false = sym r ∙ unreferred i (h ∙ good.width) in cc)

  pub node_agrees : (m : Making) (cs : List Change) (ss : Spots) (v : Option (List ℕ)) (ls : Option (List (List ℕ))) (is : Option (List MapItem)) → Good m cs ((kind.Node, fill v ls is) ∷ ss)
      → Agrees (AtNode m ss) (insert_node (fill v ls is) (state_with cs m ((kind.Node, fill v ls is) ∷ ss))) (make_node m (fill v ls is))
  node_agrees m cs ss None ls is good =
      unless_used_up (AtNode m ss) (is_used_up m.graph.next_node) sort.Node
      (Ok (
        with_node false (fill None ls is) (first_values m.values) (record {
          changes = cs;
          next_node = m.graph.next_node;
          next_edge = m.graph.next_edge;
          row = m.row;
          spots = spots_with (questions m.columns ss) (later_values m.values);
        }),
        m.graph.next_node,
      ))
      (Ok (made_node m (fill None ls is) m.columns m.row, m.graph.next_node))
      (λ room. new_node_behind m cs ((kind.Node, fill None ls is) ∷ ss) ss (fill None ls is) false m.columns good room good.kinds good.width good.sure)
  node_agrees m cs ss (Some x) ls is good =
      named_agrees m cs ss x ls is (is_column m.columns x) (place_among m.columns x) ((kind.Node, fill (Some x) ls is) ∷ ss) good refl (column_placed m.columns x)
      (back_empty (wrong_endpoint m.columns kind.Node (Some x)) (wrong_in_spots (with_variable m.columns kind.Node (Some x)) ss) good.kinds) good.sure

  -- an edge that takes its number
  pub edge_spot : (m : Making) (cs : List Change) (ss : Spots) (v : Option (List ℕ)) (ls : Option (List (List ℕ))) (is : Option (List MapItem)) → Good m cs ((kind.Edge, fill v ls is) ∷ ss)
      → (edge_begun (state_with cs m ((kind.Edge, fill v ls is) ∷ ss)) ≡ state_with cs (past_spot m m.graph kind.Edge v (edge m.graph.next_edge)) ss) × Good (past_spot m m.graph kind.Edge v (edge m.graph.next_edge)) cs ss
  edge_spot m cs ss None ls is good = (
    refl,
    record {
      leads = good.leads;
      graph = good.graph;
      width = good.width;
      kinds = good.kinds;
      sure = good.sure;
      storable = later_kept m.values good.storable;
      kept = good.kept;
    },
  )
  edge_spot m cs ss (Some x) ls is good =
      edge_named m cs ss x ls is (is_column m.columns x) (place_among m.columns x) ((kind.Edge, fill (Some x) ls is) ∷ ss) good (column_placed m.columns x) good.kinds
      (λ i r h. good.sure i (or_right (is_reference i (role_at kind.Edge (place_among m.columns x))) (refers_to i (questions (with_variable m.columns kind.Edge (Some x)) ss)) r) h)

  pub edge_values : (cs : ColumnList) (v : Option (List ℕ)) (ps : PropertyList) → properties_given (spot_with (role_of cs kind.Edge v) ps) ≡ ps
  edge_values cs None ps = refl
  edge_values cs (Some x) ps = elim (place_among cs x) as (λ o. properties_given (spot_with (role_at kind.Edge o) ps) ≡ ps) [ None ↦ refl | Some i ↦ refl ]

  -- the ends are nodes, and the lower one stands first
  ordered : (nodes : List NodeRecord) (a b : NodeId) → is_among nodes a ≡ true → is_among nodes b ≡ true → nat_le a.0 b.0 ≡ true → are_ends nodes (Undirected a b) ≡ true
  ordered nodes a b p q r = and_from (is_among nodes a && is_among nodes b) (nat_le a.0 b.0) (and_from (is_among nodes a) (is_among nodes b) p q) r

  pub ends_there : (nodes : List NodeRecord) (w : Arrow) (a b : ℕ) → is_among nodes (record { 0 = a }) ≡ true → is_among nodes (record { 0 = b }) ≡ true → are_ends nodes (ends_between w a b) ≡ true
  ends_there nodes arrow.Right a b p q = and_from (is_among nodes (record { 0 = a })) (is_among nodes (record { 0 = b })) p q
  ends_there nodes arrow.Left a b p q = and_from (is_among nodes (record { 0 = b })) (is_among nodes (record { 0 = a })) q p
  ends_there nodes arrow.Undirected a b p q = by (nat_le a b) refl
    where
      by : (t : Bool) → nat_le a b ≡ t → are_ends nodes (cond t (Undirected (record { 0 = a }) (record { 0 = b })) (Undirected (record { 0 = b }) (record { 0 = a }))) ≡ true
      by true e = ordered nodes (record { 0 = a }) (record { 0 = b }) p q e
      by false e = ordered nodes (record { 0 = b }) (record { 0 = a }) q p (grind (arith, nat_tests, e))
