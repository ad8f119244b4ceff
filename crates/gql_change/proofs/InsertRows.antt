-- INSERT by places makes what the definition makes: all rows, and the answer of a plan.
use Rattle.std.proofs.Common.{◌≡◌, ℕ, suc, ◌<◌, true, List, [], ◌∷◌, length, All, Result, Ok, Err, refl, sym, ap, subst, ◌∙◌, arith}
use Rattle.gql_values3.specs.Datum.{Datum}
use Rattle.gql_values3.specs.PropertyGraph.{PropertyGraph, is_among, is_graph}
use Rattle.gql_values3.specs.declared.element.NodeId.{NodeId}
use Rattle.gql_ast.specs.Faults.{◌>>=◌}
use Rattle.gql_ast.specs.ClauseColumns.{ColumnList}
use Rattle.gql_ast.specs.InsertColumns.{insert_spots}
use Rattle.gql_ast.specs.Endpoints.{wrong_in_spots}
use Rattle.gql_ast.specs.declared.change.InsertPath.{InsertPath}
use Rattle.gql_ast.specs.declared.fault.DataFault.{DataFault}
use Rattle.gql_ast.specs.declared.refusal.ElemKind.{ElemKind}
use Rattle.gql_ast.specs.declared.refusal.Refusal.{Refusal}
use Rattle.gql_ast.specs.declared.refusal.Refusal.TheVariants as refusal
use Rattle.gql_eval.specs.Gives.{Fails}
use Rattle.gql_eval.specs.declared.error.EvalError.{EvalError}
use Rattle.gql_eval.specs.declared.error.EvalError.TheVariants as error
use Rattle.gql_graph.specs.declared.change.Change.{Change}
use Rattle.gql_change.specs.Plans.{LeadTo, Fails as Refuses, change_fault}
use Rattle.gql_eval.specs.RowLists.{RowList}
use Rattle.gql_change.specs.Storing.{PropertyList}
use Rattle.gql_change.specs.Insertion.{Making, OrFull, ◌>>>◌, make_paths, make_rows, spots_values, rows_values}
use Rattle.gql_change.specs.Changing.{Changed, changed_by_insert, unless_fault, unless_full}
use Rattle.gql_change.specs.Machinery.Roles.{Question, questions, datum_at, lines_of}
use Rattle.gql_change.specs.Machinery.InsertByPlaces.{insert_paths, insert_line, insert_lines, at_line, without_row, first_state, made_of}
use Rattle.gql_change.specs.Machinery.Makes.{IsFull, fault_of_making}
use Rattle.gql_change.specs.declared.making_fault.MakingFault.{MakingFault}
use Rattle.gql_change.specs.declared.making_fault.MakingFault.TheVariants as making
use Rattle.gql_change.specs.declared.row_spots.Line.{Line}
use Rattle.gql_change.specs.declared.insert_state.InsertState.{InsertState}
use Rattle.gql_change.proofs.NamedPlaces.{refers_to}
use Rattle.gql_change.proofs.InsertLemmas.{spots_with, state_with, IsNodeIn, Agrees, then_agrees, all_kept, Good}
use Rattle.gql_change.proofs.InsertSteps.{Along, paths_agree}
use Rattle.gql_change.proofs.InsertValues.{one_after, first_gives, spots_agree, extends_itself, row_sure, spots_kept, line_agrees}

-- rows as wide as their columns
abbrev pub Wide : ℕ → RowList → Type 0
Wide n rows = All (λ (row : List Datum). length row ≡ n) rows

first_wide : (n : ℕ) (row : List Datum) (rows : RowList) → Wide n (row ∷ rows) → length row ≡ n
first_wide n row rows all = all 0 row (omega arith)

later_wide : (n : ℕ) (row : List Datum) (rows : RowList) → Wide n (row ∷ rows) → Wide n rows
later_wide n row rows all = λ k d h. all (suc k) d (omega arith)

-- the lines of rows and their values
abbrev pub lines_with : List Question → RowList → List (List PropertyList) → List Line
lines_with qs [] vss = []
lines_with qs (row ∷ rows) [] = []
lines_with qs (row ∷ rows) (vs ∷ vss) = record { row = row; spots = spots_with qs vs } ∷ lines_with qs rows vss

module _ (g0 : PropertyGraph) (params : List (List ℕ × Datum)) (columns : ColumnList) (ps : List InsertPath) where
  abbrev asked : List Question
  asked = questions columns (insert_spots ps)

  pub lines_agree : (rows : RowList) → lines_of g0 params columns asked rows ≡ (rows_values g0 params columns ps rows >>= λ vss. Ok (lines_with asked rows vss))
  lines_agree [] = refl
  lines_agree (row ∷ rows) =
      ap (λ (r : Result Line DataFault). r >>= λ l. lines_of g0 params columns asked rows >>= λ ls. Ok (l ∷ ls)) (line_agrees g0 params columns row (insert_spots ps))
      ∙ ap (λ (r : Result (List Line) DataFault). (spots_values g0 params columns row columns (insert_spots ps) >>= λ vs. Ok (let l : Line = record { row = row; spots = spots_with asked vs } in l)) >>= λ l. r >>= λ ls. Ok (l ∷ ls)) (lines_agree rows)
      ∙ one_after (spots_values g0 params columns row columns (insert_spots ps)) (rows_values g0 params columns ps rows)
      (λ (vs : List PropertyList). let l : Line = record { row = row; spots = spots_with asked vs } in l) (lines_with asked rows) (lines_with asked (row ∷ rows)) (λ x xs. refl)

  -- a row whose spots were evaluated
  pub record Fine (row : List Datum) (vs : List PropertyList) : Type 0 where
    pub width : length row ≡ length columns
    pub sure : (i : ℕ) → refers_to i asked ≡ true → i < length columns → IsNodeIn g0 (datum_at row i)
    pub kept : all_kept vs ≡ true

  abbrev pub AllFine : RowList → List (List PropertyList) → Type 0
  AllFine [] vss = Unit {0}
  AllFine (row ∷ rows) [] = ⊥
  AllFine (row ∷ rows) (vs ∷ vss) = Fine row vs × AllFine rows vss

  row_fine : (row : List Datum) (vs : List PropertyList) → length row ≡ length columns → spots_values g0 params columns row columns (insert_spots ps) ≡ Ok vs → Fine row vs
  row_fine row vs wide given = record {
    width = wide;
    sure = row_sure g0 params columns row asked (spots_with asked vs)
        (spots_agree g0 params columns row columns (insert_spots ps) (extends_itself columns) ∙ ap (λ (r : Result (List PropertyList) DataFault). r >>= λ ws. Ok (spots_with asked ws)) given);
    kept = spots_kept g0 params columns row columns (insert_spots ps) vs given;
  }

  all_fine : (rows : RowList) (vss : List (List PropertyList)) → Wide (length columns) rows → rows_values g0 params columns ps rows ≡ Ok vss → AllFine rows vss
  all_fine [] vss wide h = tt
  all_fine (row ∷ rows) vss wide h =
      let both = first_gives (spots_values g0 params columns row columns (insert_spots ps)) (rows_values g0 params columns ps rows) vss h in
      subst (λ (all : List (List PropertyList)). AllFine (row ∷ rows) all) (sym both.4)
      (row_fine row both.0 (first_wide (length columns) row rows wide) both.2, all_fine rows both.1 (later_wide (length columns) row rows wide) both.3)

  -- between two rows
  pub record Idle (w : InsertState) (g : PropertyGraph) : Type 0 where
    pub leads : LeadTo g0 w.changes g
    pub graph : is_graph g ≡ true
    pub next_node : w.next_node ≡ g.next_node
    pub next_edge : w.next_edge ≡ g.next_edge
    pub kept : (n : NodeId) → is_among g0.nodes n ≡ true → is_among g.nodes n ≡ true

  abbrev first_making : PropertyGraph → List Datum → List PropertyList → Making
  first_making g row vs = record { graph = g; columns = columns; row = row; values = vs }

  line_begun : (w : InsertState) (g : PropertyGraph) (row : List Datum) (vs : List PropertyList) → Idle w g
      → at_line (record { row = row; spots = spots_with asked vs }) w ≡ state_with w.changes (first_making g row vs) (insert_spots ps)
  line_begun w g row vs idle =
      ap (λ (n : ℕ). let v : InsertState = record { changes = w.changes; next_node = n; next_edge = w.next_edge; row = row; spots = spots_with asked vs } in v) idle.next_node
      ∙ ap (λ (n : ℕ). let v : InsertState = record { changes = w.changes; next_node = g.next_node; next_edge = n; row = row; spots = spots_with asked vs } in v) idle.next_edge

  line_good : (w : InsertState) (g : PropertyGraph) (row : List Datum) (vs : List PropertyList) → Idle w g → Fine row vs → wrong_in_spots columns (insert_spots ps) ≡ []
      → Good g0 (first_making g row vs) w.changes (insert_spots ps)
  line_good w g row vs idle fine kinds = record {
    leads = idle.leads;
    graph = idle.graph;
    width = fine.width;
    kinds = kinds;
    sure = λ i r h. let it : IsNodeIn g0 (datum_at row i) = fine.sure i r (omega (arith, h, fine.width)) in (it.0, it.1, idle.kept (record { 0 = it.0 }) it.2);
    storable = fine.kept;
    kept = idle.kept;
  }

  -- behind a row
  pub record RowDone (x : InsertState × List Datum) (m : Making) : Type 0 where
    pub idle : Idle x.0 m.graph
    pub row : x.1 ≡ m.row

  ended : (w : InsertState) (m : Making) → Along g0 [] w m → RowDone (without_row w, w.row) m
  ended w m a = record {
    idle = record {
      leads = subst (λ (v : InsertState). LeadTo g0 v.changes m.graph) (sym a.state) a.good.leads;
      graph = a.good.graph;
      next_node = ap (λ (v : InsertState). v.next_node) a.state;
      next_edge = ap (λ (v : InsertState). v.next_edge) a.state;
      kept = a.good.kept;
    };
    row = ap (λ (v : InsertState). v.row) a.state;
  }

  row_agrees : (w : InsertState) (g : PropertyGraph) (row : List Datum) (vs : List PropertyList) → Idle w g → Fine row vs → wrong_in_spots columns (insert_spots ps) ≡ []
      → Agrees RowDone (insert_line ps (record { row = row; spots = spots_with asked vs }) w) (make_paths ps (first_making g row vs) >>> λ m. Ok m)
  row_agrees w g row vs idle fine kinds =
      subst (λ (v : InsertState). Agrees RowDone (insert_paths ps v >>> λ u. Ok (without_row u, u.row)) (make_paths ps (first_making g row vs) >>> λ m. Ok m)) (sym (line_begun w g row vs idle))
      (then_agrees (Along g0 []) RowDone (insert_paths ps (state_with w.changes (first_making g row vs) (insert_spots ps))) (make_paths ps (first_making g row vs))
      (λ u. Ok (without_row u, u.row)) (λ m. Ok m)
      (paths_agree g0 ps (first_making g row vs) w.changes (line_good w g row vs idle fine kinds))
      (λ u m a. ended u m a))

  made_same : (r : OrFull Making) → (r >>> λ m. Ok m) ≡ r
  made_same (Ok m) = refl
  made_same (Err k) = refl

  -- behind all rows
  pub record AllDone (x : InsertState × RowList) (y : PropertyGraph × RowList) : Type 0 where
    pub leads : LeadTo g0 x.0.changes y.0
    pub rows : x.1 ≡ y.1

  pub rows_agree : (rows : RowList) (vss : List (List PropertyList)) (w : InsertState) (g : PropertyGraph) → Idle w g → AllFine rows vss → wrong_in_spots columns (insert_spots ps) ≡ []
      → Agrees AllDone (insert_lines ps (lines_with asked rows vss) w) (make_rows columns ps g rows vss)
  rows_agree [] vss w g idle fine kinds = record { leads = idle.leads; rows = refl }
  rows_agree (row ∷ rows) [] w g idle fine kinds = absurd fine
  rows_agree (row ∷ rows) (vs ∷ vss) w g idle fine kinds =
      then_agrees RowDone AllDone (insert_line ps (record { row = row; spots = spots_with asked vs }) w) (make_paths ps (first_making g row vs))
      (λ at. insert_lines ps (lines_with asked rows vss) at.0 >>> λ rest. Ok (rest.0, at.1 ∷ rest.1)) (λ m. make_rows columns ps m.graph rows vss >>> λ rest. Ok (rest.0, m.row ∷ rest.1))
      (subst (λ (r : OrFull Making). Agrees RowDone (insert_line ps (record { row = row; spots = spots_with asked vs }) w) r) (made_same (make_paths ps (first_making g row vs))) (row_agrees w g row vs idle fine.0 kinds))
      (λ x m done. then_agrees AllDone AllDone (insert_lines ps (lines_with asked rows vss) x.0) (make_rows columns ps m.graph rows vss)
      (λ rest. Ok (rest.0, x.1 ∷ rest.1)) (λ rest. Ok (rest.0, m.row ∷ rest.1))
      (rows_agree rows vss x.0 m.graph done.idle fine.1 kinds)
      (λ a b both. record { leads = both.leads; rows = ap (λ (d : List Datum). d ∷ a.1) done.row ∙ ap (λ (ds : RowList). m.row ∷ ds) both.rows }))

  -- The plan.
  module _ (rows : RowList) (graph : is_graph g0 ≡ true) (wide : Wide (length columns) rows) (kinds : wrong_in_spots columns (insert_spots ps) ≡ []) where
    abbrev pub Planned : List Change × RowList → Result Changed Refusal → Type 0
    Planned p given = (c : Changed) × (given ≡ Ok c) × LeadTo g0 p.0 c.0 × (p.1 ≡ c.1)

    start_idle : Idle (first_state g0) g0
    start_idle = record { leads = (refl, refl); graph = graph; next_node = refl; next_edge = refl; kept = λ n h. h }

    -- what the code made, and what the definition makes
    agreed : (vss : List (List PropertyList)) → rows_values g0 params columns ps rows ≡ Ok vss → Agrees AllDone (insert_lines ps (lines_with asked rows vss) (first_state g0)) (make_rows columns ps g0 rows vss)
    agreed vss h = rows_agree rows vss (first_state g0) g0 start_idle (all_fine rows vss wide h) kinds

    after_values : (vss : List (List PropertyList)) → rows_values g0 params columns ps rows ≡ Ok vss → changed_by_insert g0 params columns rows ps ≡ unless_full (make_rows columns ps g0 rows vss)
    after_values vss h = ap (λ (r : Result (List (List PropertyList)) DataFault). unless_fault r (λ values. unless_full (make_rows columns ps g0 rows values))) h

    values_there : (r : Result (List (List PropertyList)) DataFault) (f : List (List PropertyList) → List Line) (lines : List Line) → (r >>= λ vss. Ok (f vss)) ≡ Ok lines
        → (vss : List (List PropertyList)) × (r ≡ Ok vss) × (lines ≡ f vss)
    values_there (Ok vss) f lines h = (vss, refl, let e : lines ≡ f vss = cc in e)
    values_there (Err e) f lines h = absurd (cc)

    fault_same : (r : Result (List (List PropertyList)) DataFault) (f : List (List PropertyList) → List Line) (e : DataFault) → (r >>= λ vss. Ok (f vss)) ≡ Err e → r ≡ Err e
    fault_same (Ok vss) f e h = absurd (cc)
    fault_same (Err d) f e h = let same : d ≡ e = cc in ap Err same

    evaluated : (lines : List Line) → lines_of g0 params columns asked rows ≡ Ok lines → (vss : List (List PropertyList)) × (rows_values g0 params columns ps rows ≡ Ok vss) × (lines ≡ lines_with asked rows vss)
    evaluated lines h = values_there (rows_values g0 params columns ps rows) (lines_with asked rows) lines (sym (lines_agree rows) ∙ h)

    both_ok : (r : OrFull (InsertState × RowList)) (q : OrFull (PropertyGraph × RowList)) (p : List Change × RowList) → Agrees AllDone r q → (r >>> λ rest. Ok (rest.0.changes, rest.1)) ≡ Ok p → Planned p (unless_full q)
    both_ok (Ok x) (Ok y) p agree h =
        let same : (x.0.changes, x.1) ≡ p = cc in
        subst (λ (s : List Change × RowList). Planned s (Ok y)) same (y, refl, agree.leads, agree.rows)
    both_ok (Ok x) (Err k) p agree h = absurd agree
    both_ok (Err j) (Ok y) p agree h = absurd agree
    both_ok (Err j) (Err k) p agree h = absurd (cc)

    both_err : (r : OrFull (InsertState × RowList)) (q : OrFull (PropertyGraph × RowList)) (k : ElemKind) → Agrees AllDone r q → (r >>> λ rest. let s : List Change × RowList = (rest.0.changes, rest.1) in Ok s) ≡ Err k → unless_full q ≡ Err (refusal.Full k)
    both_err (Ok x) (Ok y) k agree h = absurd (cc)
    both_err (Ok x) (Err j) k agree h = absurd agree
    both_err (Err j) (Ok y) k agree h = absurd agree
    both_err (Err i) (Err j) k agree h = let same : j ≡ k = sym agree ∙ (let e : i ≡ k = cc in e) in ap (λ (s : ElemKind). Err (refusal.Full s)) same

    pub planned : (lines : List Line) (p : List Change × RowList) → lines_of g0 params columns asked rows ≡ Ok lines → made_of ps lines g0 ≡ Ok p → Planned p (changed_by_insert g0 params columns rows ps)
    planned lines p given made =
        let all = evaluated lines given in
        subst (λ (r : Result Changed Refusal). Planned p r) (sym (after_values all.0 all.1))
        (both_ok (insert_lines ps (lines_with asked rows all.0) (first_state g0)) (make_rows columns ps g0 rows all.0) p (agreed all.0 all.1) (ap (λ (ls : List Line). made_of ps ls g0) (sym all.2) ∙ made))

    full : (lines : List Line) (k : ElemKind) → lines_of g0 params columns asked rows ≡ Ok lines → made_of ps lines g0 ≡ Err k → changed_by_insert g0 params columns rows ps ≡ Err (refusal.Full k)
    full lines k given made =
        let all = evaluated lines given in
        after_values all.0 all.1
        ∙ both_err (insert_lines ps (lines_with asked rows all.0) (first_state g0)) (make_rows columns ps g0 rows all.0) k (agreed all.0 all.1) (ap (λ (ls : List Line). made_of ps ls g0) (sym all.2) ∙ made)

    pub refused_full : (lines : List Line) (e : MakingFault) → lines_of g0 params columns asked rows ≡ Ok lines → IsFull e (made_of ps lines g0) → Refuses (fault_of_making e) (changed_by_insert g0 params columns rows ps)
    refused_full lines making.OutOfMemory given made = tt
    refused_full lines (making.Full k) given made = full lines k given made

    pub refused_fault : (e : EvalError) → Fails e (lines_of g0 params columns asked rows) → Refuses (change_fault e) (changed_by_insert g0 params columns rows ps)
    refused_fault error.OutOfMemory h = tt
    refused_fault (error.Fault f) h =
        ap (λ (r : Result (List (List PropertyList)) DataFault). unless_fault r (λ values. unless_full (make_rows columns ps g0 rows values)))
        (fault_same (rows_values g0 params columns ps rows) (lines_with asked rows) f (sym (lines_agree rows) ∙ h))
