-- Rows that fit their columns fit those behind a clause that changes data. Key idea: only INSERT makes rows longer, and each
-- of its steps adds a column exactly where it adds a cell: a node's or an edge's, as the column says.
use Rattle.std.proofs.Common.{◌≡◌, ℕ, suc, Bool, true, false, cond, List, [], ◌∷◌, ◌++◌, All, Option, Some, None, Result, Ok, Err, IfOk, IsTrue, refl, sym, ap, subst, ◌∙◌}
use Rattle.std.specs.List.{flat_map}
use Rattle.std.proofs.lemmas.List.Elements.{All-nil, All-cons, All-head, All-tail, All-same}
use Rattle.std.proofs.lemmas.List.Sums.{AllPass-from_list_all, list_all-from_AllPass}
use Rattle.gql_values3.specs.Datum.{Datum, null, node, edge}
use Rattle.gql_values3.specs.PropertyGraph.{PropertyGraph}
use Rattle.gql_values3.specs.Rows.{fits_kind}
use Rattle.gql_values3.specs.declared.table.ColumnKind.{ColumnKind}
use Rattle.gql_values3.specs.declared.table.ColumnKind.TheVariants as kind
use Rattle.gql_ast.specs.ClauseColumns.{ColumnList, is_column}
use Rattle.gql_ast.specs.InsertColumns.{change_columns, insert_spots, path_spots, spot_columns, step_spots, with_variable}
use Rattle.gql_ast.specs.declared.change.ChangeClause.{ChangeClause}
use Rattle.gql_ast.specs.declared.change.ChangeClause.TheVariants as change
use Rattle.gql_ast.specs.declared.change.Fill.{Fill}
use Rattle.gql_ast.specs.declared.change.InsertPath.{InsertPath}
use Rattle.gql_ast.specs.declared.change.InsertStep.{InsertStep}
use Rattle.gql_ast.specs.declared.fault.DataFault.{DataFault}
use Rattle.gql_ast.specs.declared.fault.DataFault.TheVariants as fault
use Rattle.gql_ast.specs.declared.refusal.ElemKind.{ElemKind}
use Rattle.gql_ast.specs.declared.refusal.ElemKind.TheVariants as sort
use Rattle.gql_ast.specs.declared.refusal.Refusal.{Refusal}
use Rattle.gql_ast.specs.declared.refusal.Refusal.TheVariants as refusal
use Rattle.gql_eval.specs.RowLists.{RowList, row_fits, rows_fit}
use Rattle.gql_eval.proofs.RowFits.{Fits, one_fits, row_append}
use Rattle.gql_graph.specs.Edits.{with_nodes}
use Rattle.gql_change.specs.Assignments.{remove_assignments, set_assignments}
use Rattle.gql_change.specs.AssignedGraph.{assigned}
use Rattle.gql_change.specs.Conflicts.{conflict_among}
use Rattle.gql_change.specs.Deletion.{deleted, first_left, named_elements}
use Rattle.gql_change.specs.Storing.{PropertyList}
use Rattle.gql_change.specs.Insertion.{Making, OrFull, ◌>>>◌, ends_between, is_used_up, make_node, make_path, make_paths, make_rows, make_step, make_steps, new_edge, new_node, number_under, past_spot, refers, rows_values, spots_values, with_cell, with_edge_made}
use Rattle.gql_change.specs.Changing.{Changed, change_of, changed_by_assignments, changed_by_insert, has_endpoints, refused_by, unless_fault, unless_full}
use Rattle.gql_change.specs.Plans.{Plans}
use Rattle.gql_change.specs.declared.assignment.Assignment.{Assignment}
use Rattle.gql_change.specs.declared.fault.ChangeFault.{ChangeFault}
use Rattle.gql_change.specs.declared.planning.Planned.{Planned}
use Rattle.gql_change.proofs.EndpointLemmas.{columns_past}
use Rattle.gql_change.proofs.InsertValues.{first_gives}

-- one thing is given
given_is : {A E : Type 0} (a b : A) (r : Result A E) → r ≡ Ok a → r ≡ Ok b → b ≡ a
given_is a b (Ok x) p q = cc
given_is a b (Err e) p q = absurd (cc)

-- a step that made b was given something
next_made : {A B : Type 0} (r : OrFull A) (f : A → OrFull B) (b : B) → (r >>> f) ≡ Ok b → (a : A) × (r ≡ Ok a) × (f a ≡ Ok b)
next_made (Ok a) f b p = (a, refl, p)
next_made (Err e) f b p = absurd (cc)

-- a making with these columns, whose row fits them
abbrev FitsBehind : ColumnList → Making → Type 0
FitsBehind columns m = (m.columns ≡ columns) × Fits m.columns m.row

cell_fits : (columns : ColumnList) (row : List Datum) (k : ColumnKind) (v : Option (List ℕ)) (d : Datum) → Fits columns row → fits_kind k d ≡ true
    → Fits (with_variable columns k v) (with_cell columns row v d)
cell_fits columns row k None d fit h = fit
cell_fits columns row k (Some x) d fit h = by (is_column columns x)
  where
    by : (b : Bool) → Fits (cond b columns (columns ++ (x, k) ∷ [])) (cond b row (row ++ d ∷ []))
    by true = fit
    by false = row_append columns ((x, k) ∷ []) row (d ∷ []) fit (one_fits x k d h)

node_behind : (m : Making) (f : Fill) (y : Making × ℕ) → Fits m.columns m.row → make_node m f ≡ Ok y → FitsBehind (with_variable m.columns kind.Node f.variable) y.0
node_behind m f y fit p = by (refers m.columns f.variable) (is_used_up m.graph.next_node) p
  where
    stands : Making × ℕ
    stands = (past_spot m m.graph kind.Node f.variable null, number_under m f.variable)

    made : Making × ℕ
    made = (past_spot m (with_nodes m.graph (m.graph.nodes ++ new_node m f ∷ []) (suc m.graph.next_node)) kind.Node f.variable (node m.graph.next_node), m.graph.next_node)

    by : (b u : Bool) → cond b (Ok stands) (cond u (Err sort.Node) (Ok made)) ≡ Ok y → FitsBehind (with_variable m.columns kind.Node f.variable) y.0
    by true u q =
        subst (λ (z : Making × ℕ). FitsBehind (with_variable m.columns kind.Node f.variable) z.0) (sym (given_is stands y (cond true (Ok stands) (cond u (Err sort.Node) (Ok made))) refl q))
        (refl, cell_fits m.columns m.row kind.Node f.variable null fit refl)
    by false true q = absurd (cc)
    by false false q =
        subst (λ (z : Making × ℕ). FitsBehind (with_variable m.columns kind.Node f.variable) z.0) (sym (given_is made y (cond false (Ok stands) (cond false (Err sort.Node) (Ok made))) refl q))
        (refl, cell_fits m.columns m.row kind.Node f.variable (node m.graph.next_node) fit refl)

step_behind : (s : InsertStep) (at y : Making × ℕ) → Fits at.0.columns at.0.row → make_step s at ≡ Ok y → FitsBehind (spot_columns at.0.columns (step_spots s)) y.0
step_behind s at y fit p = by (is_used_up at.0.graph.next_edge) p
  where
    numbered : Making
    numbered = past_spot at.0 at.0.graph kind.Edge s.edge.variable (edge at.0.graph.next_edge)

    joined : Making × ℕ → Making × ℕ
    joined made = with_edge_made (new_edge at.0 s.edge (ends_between s.arrow at.1 made.1)) made

    by : (u : Bool) → cond u (Err sort.Edge) (make_node numbered s.node >>> λ made. Ok (joined made)) ≡ Ok y → FitsBehind (spot_columns at.0.columns (step_spots s)) y.0
    by true q = absurd (cc)
    by false q =
        let made = next_made (make_node numbered s.node) (λ (z : Making × ℕ). Ok (joined z)) y q in
        let behind = node_behind numbered s.node made.0 (cell_fits at.0.columns at.0.row kind.Edge s.edge.variable (edge at.0.graph.next_edge) fit refl) made.1 in
        let done : OrFull (Making × ℕ) = Ok (joined made.0) in
        subst (λ (z : Making × ℕ). FitsBehind (spot_columns at.0.columns (step_spots s)) z.0) (sym (given_is (joined made.0) y done refl made.2)) (behind.0, behind.1)

steps_behind : (ss : List InsertStep) (at y : Making × ℕ) → Fits at.0.columns at.0.row → make_steps ss at ≡ Ok y → FitsBehind (spot_columns at.0.columns (flat_map step_spots ss)) y.0
steps_behind [] at y fit p =
    let done : OrFull (Making × ℕ) = Ok at in
    subst (λ (z : Making × ℕ). FitsBehind at.0.columns z.0) (sym (given_is at y done refl p)) (refl, fit)
steps_behind (s ∷ ss) at y fit p =
    let one = next_made (make_step s at) (make_steps ss) y p in
    let here = step_behind s at one.0 fit one.1 in
    let rest = steps_behind ss one.0 y here.1 one.2 in
    (rest.0 ∙ ap (λ (cs : ColumnList). spot_columns cs (flat_map step_spots ss)) here.0, rest.1)

path_behind : (p : InsertPath) (m y : Making) → Fits m.columns m.row → make_path m p ≡ Ok y → FitsBehind (spot_columns m.columns (path_spots p)) y
path_behind p m y fit h =
    let walked = next_made (make_node m p.start >>> make_steps p.steps) (λ (at : Making × ℕ). Ok at.0) y h in
    let first = next_made (make_node m p.start) (make_steps p.steps) walked.0 walked.1 in
    let here = node_behind m p.start first.0 fit first.1 in
    let rest = steps_behind p.steps first.0 walked.0 here.1 first.2 in
    let done : OrFull Making = Ok walked.0.0 in
    subst (FitsBehind (spot_columns m.columns (path_spots p))) (sym (given_is walked.0.0 y done refl walked.2))
    (rest.0 ∙ ap (λ (cs : ColumnList). spot_columns cs (flat_map step_spots p.steps)) here.0, rest.1)

paths_behind : (ps : List InsertPath) (m y : Making) → Fits m.columns m.row → make_paths ps m ≡ Ok y → FitsBehind (spot_columns m.columns (insert_spots ps)) y
paths_behind [] m y fit h =
    let done : OrFull Making = Ok m in
    subst (FitsBehind m.columns) (sym (given_is m y done refl h)) (refl, fit)
paths_behind (p ∷ ps) m y fit h =
    let one = next_made (make_path m p) (make_paths ps) y h in
    let here = path_behind p m one.0 fit one.1 in
    let rest = paths_behind ps one.0 y here.1 one.2 in (
      rest.0 ∙ ap (λ (cs : ColumnList). spot_columns cs (insert_spots ps)) here.0 ∙ columns_past m.columns (path_spots p) (insert_spots ps) (insert_spots (p ∷ ps)) refl,
      rest.1,
    )

module _ (g0 : PropertyGraph) (params : List (List ℕ × Datum)) (columns : ColumnList) where
  module _ (ps : List InsertPath) where
    abbrev behind : ColumnList
    behind = spot_columns columns (insert_spots ps)

    rows_behind : (rows : RowList) (vss : List (List PropertyList)) (g : PropertyGraph) (y : PropertyGraph × RowList) → All (Fits columns) rows → rows_values g0 params columns ps rows ≡ Ok vss
        → make_rows columns ps g rows vss ≡ Ok y → All (Fits behind) y.1
    rows_behind [] vss g y all values p =
        let done : OrFull (PropertyGraph × RowList) = Ok (g, []) in
        subst (λ (z : PropertyGraph × RowList). All (Fits behind) z.1) (sym (given_is (g, []) y done refl p)) (All-nil (Fits behind))
    rows_behind (row ∷ rows) [] g y all values p =
        let both = first_gives (spots_values g0 params columns row columns (insert_spots ps)) (rows_values g0 params columns ps rows) [] values in
        absurd (let e : [] ≡ both.0 ∷ both.1 = both.4 in cc)
    rows_behind (row ∷ rows) (vs ∷ vss) g y all values p =
        let both = first_gives (spots_values g0 params columns row columns (insert_spots ps)) (rows_values g0 params columns ps rows) (vs ∷ vss) values in
        let same : both.1 ≡ vss = (let e : vs ∷ vss ≡ both.0 ∷ both.1 = both.4 in cc) in
        let m : Making = record { graph = g; columns = columns; row = row; values = vs } in
        let made = next_made (make_paths ps m) (λ (n : Making). make_rows columns ps n.graph rows vss >>> λ rest. Ok (rest.0, n.row ∷ rest.1)) y p in
        let rest = next_made (make_rows columns ps made.0.graph rows vss) (λ (z : PropertyGraph × RowList). Ok (z.0, made.0.row ∷ z.1)) y made.2 in
        let here = paths_behind ps m made.0 (All-head (Fits columns) row rows all) made.1 in
        let done : OrFull (PropertyGraph × RowList) = Ok (rest.0.0, made.0.row ∷ rest.0.1) in
        subst (λ (z : PropertyGraph × RowList). All (Fits behind) z.1) (sym (given_is (rest.0.0, made.0.row ∷ rest.0.1) y done refl rest.2))
        (All-cons (Fits behind) made.0.row rest.0.1 (subst (λ (cs : ColumnList). Fits cs made.0.row) here.0 here.1)
        (rows_behind rows vss made.0.graph rest.0 (All-tail (Fits columns) row rows all) (both.3 ∙ ap Ok same) rest.1))

  unless_fault_gives : {A : Type 0} (r : Result A DataFault) (f : A → Result Changed Refusal) (c : Changed) → unless_fault r f ≡ Ok c → (a : A) × (r ≡ Ok a) × (f a ≡ Ok c)
  unless_fault_gives (Ok a) f c p = (a, refl, p)
  unless_fault_gives (Err e) f c p = absurd (cc)

  unless_full_gives : (r : Result Changed ElemKind) (c : Changed) → unless_full r ≡ Ok c → r ≡ Ok c
  unless_full_gives (Ok d) c p = let e : d ≡ c = cc in ap Ok e
  unless_full_gives (Err e) c p = absurd (cc)

  refused_keeps : (o : Option Refusal) (d c : Changed) → refused_by o d ≡ Ok c → c ≡ d
  refused_keeps None d c p = let e : d ≡ c = cc in sym e
  refused_keeps (Some r) d c p = absurd (cc)

  -- an INSERT
  insert_fits : (ps : List InsertPath) (rows : RowList) (c : Changed) → All (Fits columns) rows → change_of g0 params columns rows (change.Insert ps) ≡ Ok c
      → All (Fits (spot_columns columns (insert_spots ps))) c.1
  insert_fits ps rows c all p = by (has_endpoints columns rows ps) p
    where
      by : (b : Bool) → cond b (changed_by_insert g0 params columns rows ps) (Err (refusal.Fault fault.WrongKind)) ≡ Ok c → All (Fits (spot_columns columns (insert_spots ps))) c.1
      by true q =
          let values = unless_fault_gives (rows_values g0 params columns ps rows) (λ (vss : List (List PropertyList)). unless_full (make_rows columns ps g0 rows vss)) c q in
          rows_behind ps rows values.0 g0 c all values.1 (unless_full_gives (make_rows columns ps g0 rows values.0) c values.2)
      by false q = absurd (cc)

  -- SET and REMOVE
  assigned_fits : (given : Result (List Assignment) DataFault) (rows : RowList) (c : Changed) → All (Fits columns) rows → changed_by_assignments g0 params columns rows given ≡ Ok c
      → All (Fits columns) c.1
  assigned_fits given rows c all p =
      let list = unless_fault_gives given (λ (done : List Assignment). refused_by (conflict_among done) (assigned done g0, rows)) c p in
      subst (λ (d : Changed). All (Fits columns) d.1) (sym (refused_keeps (conflict_among list.0) (assigned list.0 g0, rows) c list.2)) all

  change_fits : (k : ChangeClause) (rows : RowList) (c : Changed) → All (Fits columns) rows → change_of g0 params columns rows k ≡ Ok c → All (Fits (change_columns columns k)) c.1
  change_fits (change.Insert ps) rows c all p = insert_fits ps rows c all p
  change_fits (change.Set is) rows c all p = assigned_fits (set_assignments g0 params columns is rows) rows c all p
  change_fits (change.Remove is) rows c all p = assigned_fits (remove_assignments g0 params columns is rows) rows c all p
  change_fits (change.Delete d names) rows c all p =
      let gone = named_elements columns names rows in
      subst (λ (e : Changed). All (Fits columns) e.1) (sym (refused_keeps (first_left d gone g0 g0.nodes) (deleted d gone g0, rows) c p)) all

  -- what is planned fits, where it is the definition's
  pub plan_fits : (k : ChangeClause) (rows : RowList) (answer : Result Planned ChangeFault) → Plans (λ (p : Planned). (p.list, p.rows)) g0 answer (change_of g0 params columns rows k)
      → IfOk answer (λ (p : Planned). p.columns ≡ change_columns columns k) → IsTrue (rows_fit columns rows) → IfOk answer (λ (p : Planned). IsTrue (rows_fit p.columns p.rows))
  plan_fits k rows (Err e) given columns_are fit = tt
  plan_fits k rows (Ok p) given columns_are fit =
      let all = change_fits k rows given.0 (AllPass-from_list_all (row_fits columns) rows fit) given.1 in
      subst (λ (cs : ColumnList). IsTrue (rows_fit cs p.rows)) (sym columns_are)
      (subst (λ (rs : RowList). IsTrue (rows_fit (change_columns columns k) rs)) (sym given.3)
      (list_all-from_AllPass (row_fits (change_columns columns k)) given.0.1 all))
