-- INSERT by places makes what the definition makes: steps, paths, and the spots of a row.
use Rattle.std.proofs.Common.{◌≡◌, ℕ, suc, ◌+◌, true, false, List, [], ◌∷◌, ◌++◌, Ok, refl, sym, ap, subst, ◌∙◌, arith, ◌&&◌}
use Rattle.std.proofs.lemmas.Bool.{and_from}
use Rattle.std.specs.List.{flat_map}
use Rattle.gql_values3.specs.Datum.{edge}
use Rattle.gql_values3.specs.PropertyGraph.{PropertyGraph, is_among, are_ends, are_properties}
use Rattle.gql_values3.specs.Texts.{texts_ascend}
use Rattle.gql_values3.specs.declared.records.EdgeRecord.{EdgeRecord}
use Rattle.gql_values3.specs.declared.table.ColumnKind.TheVariants as kind
use Rattle.gql_ast.specs.InsertColumns.{Spots, insert_spots, path_spots, step_spots}
use Rattle.gql_ast.specs.declared.change.InsertPath.{InsertPath}
use Rattle.gql_ast.specs.declared.change.InsertStep.{InsertStep}
use Rattle.gql_ast.specs.declared.refusal.ElemKind.TheVariants as sort
use Rattle.gql_graph.specs.Edits.{can_act}
use Rattle.gql_graph.specs.declared.change.Change.{Change}
use Rattle.gql_graph.specs.declared.change.Change.TheVariants as change
use Rattle.gql_change.specs.Storing.{PropertyList}
use Rattle.gql_change.specs.Insertion.{Making, OrFull, ◌>>>◌, is_used_up, first_values, labels_given, new_edge, make_node, make_step, make_steps, make_path, make_paths, past_spot, ends_between, with_edge_made}
use Rattle.gql_change.specs.Machinery.Roles.{questions, role_of}
use Rattle.gql_change.specs.Machinery.InsertByPlaces.{insert_node, insert_step, insert_steps, insert_path, insert_paths, edge_record, edge_begun, edge_added, properties_given}
use Rattle.gql_change.specs.declared.insert_state.InsertState.{InsertState}
use Rattle.gql_change.proofs.StoringLemmas.{texts_ascend-label_set, are_properties-property_set}
use Rattle.gql_change.proofs.GraphGrowth.{leads_on, edge_can_act, still_graph}
use Rattle.gql_change.proofs.InsertLemmas.{spot_with, spots_with, state_with, Agrees, then_agrees, unless_used_up, first_kept, Good, Behind, AtNode, node_agrees, edge_spot, edge_values, ends_there}

pair_same : {A B : Type 0} (x : A × B) (a : A) (b : B) → x.0 ≡ a → x.1 ≡ b → x ≡ (a, b)
pair_same {A = A} {B = B} x a b p q = ap (λ (c : A). (c, x.1)) p ∙ ap (λ (d : B). (a, d)) q

module _ (g0 : PropertyGraph) where
  -- the edge of a step, once its nodes are there
  module _ (m : Making) (cs : List Change) (ss : Spots) (s : InsertStep) (a : ℕ) (good : Good g0 m cs (step_spots s ++ ss)) (there : is_among m.graph.nodes (record { 0 = a }) ≡ true)
      (room : is_used_up m.graph.next_edge ≡ false) where
    abbrev begun : Making
    begun = past_spot m m.graph kind.Edge s.edge.variable (edge m.graph.next_edge)

    abbrev given : PropertyList
    given = properties_given (spot_with (role_of m.columns kind.Edge s.edge.variable) (first_values m.values))

    module _ (x : InsertState × ℕ) (y : Making × ℕ) (at : AtNode g0 begun ss x y) where
      abbrev record_joined : EdgeRecord
      record_joined = new_edge m s.edge (ends_between s.arrow a y.1)

      acts : can_act (change.NewEdge record_joined) y.0.graph ≡ true
      acts =
          edge_can_act y.0.graph at.behind.good.graph record_joined (ap is_used_up at.edges ∙ room)
          (and_from (texts_ascend record_joined.labels && are_properties record_joined.properties) (are_ends y.0.graph.nodes record_joined.ends)
          (and_from (texts_ascend record_joined.labels) (are_properties record_joined.properties)
          (texts_ascend-label_set (labels_given s.edge.labels))
          (are_properties-property_set (first_values m.values) (first_kept m.values good.storable)))
          (ends_there g0 y.0.graph.nodes s.arrow a y.1 (at.more (record { 0 = a }) there) at.behind.there))
          (sym at.edges)

      raised : m.graph.next_edge + 1 ≡ suc y.0.graph.next_edge
      raised = omega (arith, at.edges)

      joins : Behind g0 ss (edge_added (edge_record m.graph.next_edge s.edge (ends_between s.arrow a x.1) given) (m.graph.next_edge + 1) x.0, x.1) (with_edge_made record_joined y)
      joins = record {
        changes = at.behind.changes ++ change.NewEdge record_joined ∷ [];
        state =
            ap (λ (ps : PropertyList). edge_added (edge_record m.graph.next_edge s.edge (ends_between s.arrow a x.1) ps) (m.graph.next_edge + 1) x.0) (edge_values g0 m.columns s.edge.variable (first_values m.values))
            ∙ ap (λ (n : ℕ). edge_added (edge_record m.graph.next_edge s.edge (ends_between s.arrow a n) (first_values m.values)) (m.graph.next_edge + 1) x.0) at.behind.number
            ∙ ap (λ (w : InsertState). edge_added record_joined (m.graph.next_edge + 1) w) at.behind.state
            ∙ ap (λ (n : ℕ). let w : InsertState = record {
              changes = at.behind.changes ++ change.NewEdge record_joined ∷ [];
              next_node = y.0.graph.next_node;
              next_edge = n;
              row = y.0.row;
              spots = spots_with (questions y.0.columns ss) y.0.values;
            } in w) raised;
        number = at.behind.number;
        good = record {
          leads = leads_on g0 y.0.graph at.behind.changes (change.NewEdge record_joined) at.behind.good.leads acts;
          graph = still_graph (change.NewEdge record_joined) y.0.graph acts;
          width = at.behind.good.width;
          kinds = at.behind.good.kinds;
          sure = at.behind.good.sure;
          storable = at.behind.good.storable;
          kept = at.behind.good.kept;
        };
        there = at.behind.there;
      }

  pub step_agrees : (m : Making) (cs : List Change) (ss : Spots) (s : InsertStep) (a : ℕ) → Good g0 m cs (step_spots s ++ ss) → is_among m.graph.nodes (record { 0 = a }) ≡ true
      → Agrees (Behind g0 ss) (insert_step s (state_with cs m (step_spots s ++ ss), a)) (make_step s (m, a))
  step_agrees m cs ss s a good there =
      unless_used_up (Behind g0 ss) (is_used_up m.graph.next_edge) sort.Edge
      (insert_node s.node (edge_begun (state_with cs m (step_spots s ++ ss))) >>> join_work)
      (make_node (begun_of m) s.node >>> join_making)
      (λ room. subst (λ (w : InsertState). Agrees (Behind g0 ss) (insert_node s.node w >>> join_work) (make_node (begun_of m) s.node >>> join_making)) (sym taken.0)
      (then_agrees (AtNode g0 (begun_of m) ss) (Behind g0 ss) (insert_node s.node (state_with cs (begun_of m) ((kind.Node, s.node) ∷ ss))) (make_node (begun_of m) s.node) join_work join_making
      (node_agrees g0 (begun_of m) cs ss s.node.variable s.node.labels s.node.map taken.1)
      (λ x y at. joins m cs ss s a good there room x y at)))
    where
      begun_of : Making → Making
      begun_of k = past_spot k k.graph kind.Edge s.edge.variable (edge k.graph.next_edge)

      taken : (edge_begun (state_with cs m (step_spots s ++ ss)) ≡ state_with cs (begun_of m) ((kind.Node, s.node) ∷ ss)) × Good g0 (begun_of m) cs ((kind.Node, s.node) ∷ ss)
      taken = edge_spot g0 m cs ((kind.Node, s.node) ∷ ss) s.edge.variable s.edge.labels s.edge.map good

      join_work : InsertState × ℕ → OrFull (InsertState × ℕ)
      join_work made = Ok (edge_added (edge_record m.graph.next_edge s.edge (ends_between s.arrow a made.1) (properties_given (spot_with (role_of m.columns kind.Edge s.edge.variable) (first_values m.values)))) (m.graph.next_edge + 1) made.0, made.1)

      join_making : Making × ℕ → OrFull (Making × ℕ)
      join_making made = Ok (with_edge_made (new_edge m s.edge (ends_between s.arrow a made.1)) made)

  pub steps_agree : (steps : List InsertStep) (m : Making) (cs : List Change) (rest : Spots) (a : ℕ) → Good g0 m cs (flat_map step_spots steps ++ rest) → is_among m.graph.nodes (record { 0 = a }) ≡ true
      → Agrees (Behind g0 rest) (insert_steps steps (state_with cs m (flat_map step_spots steps ++ rest), a)) (make_steps steps (m, a))
  steps_agree [] m cs rest a good there = record { changes = cs; state = refl; number = refl; good = good; there = there }
  steps_agree (s ∷ ss) m cs rest a good there =
      then_agrees (Behind g0 (flat_map step_spots ss ++ rest)) (Behind g0 rest) (insert_step s (state_with cs m (step_spots s ++ (flat_map step_spots ss ++ rest)), a)) (make_step s (m, a))
      (insert_steps ss) (make_steps ss)
      (step_agrees m cs (flat_map step_spots ss ++ rest) s a good there)
      (λ x y p. subst (λ (w : InsertState × ℕ). Agrees (Behind g0 rest) (insert_steps ss w) (make_steps ss y)) (sym (pair_same x (state_with p.changes y.0 (flat_map step_spots ss ++ rest)) y.1 p.state p.number))
      (steps_agree ss y.0 p.changes rest y.1 p.good p.there))

  -- behind a path
  pub record Along (rest : Spots) (w : InsertState) (m : Making) : Type 0 where
    pub changes : List Change
    pub state : w ≡ state_with changes m rest
    pub good : Good g0 m changes rest

  pub path_agrees : (p : InsertPath) (m : Making) (cs : List Change) (rest : Spots) → Good g0 m cs (path_spots p ++ rest)
      → Agrees (Along rest) (insert_path p (state_with cs m (path_spots p ++ rest))) (make_path m p)
  path_agrees p m cs rest good =
      then_agrees (Behind g0 rest) (Along rest) (insert_node p.start (state_with cs m (path_spots p ++ rest)) >>> insert_steps p.steps) (make_node m p.start >>> make_steps p.steps)
      (λ at. Ok at.0) (λ at. Ok at.0)
      (then_agrees (AtNode g0 m (flat_map step_spots p.steps ++ rest)) (Behind g0 rest) (insert_node p.start (state_with cs m (path_spots p ++ rest))) (make_node m p.start) (insert_steps p.steps) (make_steps p.steps)
      (node_agrees g0 m cs (flat_map step_spots p.steps ++ rest) p.start.variable p.start.labels p.start.map good)
      (λ x y b. subst (λ (w : InsertState × ℕ). Agrees (Behind g0 rest) (insert_steps p.steps w) (make_steps p.steps y))
      (sym (pair_same x (state_with b.behind.changes y.0 (flat_map step_spots p.steps ++ rest)) y.1 b.behind.state b.behind.number))
      (steps_agree p.steps y.0 b.behind.changes rest y.1 b.behind.good b.behind.there)))
      (λ x y b. record { changes = b.changes; state = b.state; good = b.good })

  pub paths_agree : (ps : List InsertPath) (m : Making) (cs : List Change) → Good g0 m cs (insert_spots ps)
      → Agrees (Along []) (insert_paths ps (state_with cs m (insert_spots ps))) (make_paths ps m)
  paths_agree [] m cs good = record { changes = cs; state = refl; good = good }
  paths_agree (p ∷ ps) m cs good =
      then_agrees (Along (insert_spots ps)) (Along []) (insert_path p (state_with cs m (path_spots p ++ insert_spots ps))) (make_path m p) (insert_paths ps) (make_paths ps)
      (path_agrees p m cs (insert_spots ps) good)
      (λ w y b. subst (λ (v : InsertState). Agrees (Along []) (insert_paths ps v) (make_paths ps y)) (sym b.state) (paths_agree ps y b.changes b.good))
