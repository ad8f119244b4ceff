-- No statement is refused as the store is. Key idea: each refusal is made by a constructor of its own, wherever it comes from.
use Rattle.std.proofs.Common.{◌≡◌, ℕ, Bool, true, false, List, [], ◌∷◌, map, Option, Some, None, Result, Ok, Err, refl, ap, ◌∙◌}
use Rattle.std.specs.Prelude.{ℤ, option_map, if◌then◌else◌}
use Rattle.std.specs.Fmt.{signed_decimal}
use Rattle.std.specs.List.{list_any, flat_map}
use Rattle.std.specs.Option.{option_or}
use Rattle.gql_values3.specs.Datum.{Datum}
use Rattle.gql_values3.specs.PropertyGraph.{PropertyGraph}
use Rattle.gql_values3.specs.declared.element.Elem.{Elem}
use Rattle.gql_values3.specs.declared.records.NodeRecord.{NodeRecord}
use Rattle.gql_values3.specs.declared.records.EdgeRecord.{EdgeRecord}
use Rattle.gql_values3.specs.declared.table.Table.{Table}
use Rattle.gql_ast.specs.ClauseColumns.{ColumnList}
use Rattle.gql_ast.specs.Meaning.{tree_of}
use Rattle.gql_ast.specs.Evaluation.{value_of}
use Rattle.gql_ast.specs.NumberLiterals.{wide_number}
use Rattle.gql_ast.specs.Tree.{Tree}
use Rattle.gql_ast.specs.declared.change.ChangeClause.{ChangeClause}
use Rattle.gql_ast.specs.declared.change.ChangeClause.TheVariants as change
use Rattle.gql_ast.specs.declared.change.Detachment.{Detachment}
use Rattle.gql_ast.specs.declared.clause.Clause.{Clause}
use Rattle.gql_ast.specs.declared.clause.Clause.TheVariants as clause
use Rattle.gql_ast.specs.declared.clause.Query.{Query}
use Rattle.gql_ast.specs.declared.fault.DataFault.{DataFault}
use Rattle.gql_ast.specs.declared.fault.DataFault.TheVariants as fault
use Rattle.gql_ast.specs.declared.refusal.ColumnRef.TheVariants as column
use Rattle.gql_ast.specs.declared.refusal.ElemKind.{ElemKind}
use Rattle.gql_ast.specs.declared.refusal.Outcome.TheVariants as outcome
use Rattle.gql_ast.specs.declared.refusal.Refusal.{Refusal}
use Rattle.gql_ast.specs.declared.refusal.Refusal.TheVariants as refusal
use Rattle.gql_ast.specs.declared.statement.CatalogStatement.{CatalogStatement}
use Rattle.gql_ast.specs.declared.statement.CatalogStatement.TheVariants as catalog
use Rattle.gql_ast.specs.declared.statement.GraphKind.TheVariants as kind
use Rattle.gql_ast.specs.declared.statement.SessionStatement.{SessionStatement}
use Rattle.gql_ast.specs.declared.statement.SessionStatement.TheVariants as session
use Rattle.gql_ast.specs.declared.statement.Statement.{Statement}
use Rattle.gql_ast.specs.declared.statement.Statement.TheVariants as statement
use Rattle.gql_ast.specs.declared.statement.TransactionStatement.{TransactionStatement}
use Rattle.gql_ast.specs.declared.statement.TransactionStatement.TheVariants as transaction
use Rattle.gql_expr_checks.specs.ExprMisuses.{misused, elsewhere}
use Rattle.gql_expr_checks.specs.ExprNames.{unknown_in}
use Rattle.gql_expr_checks.specs.ExprParameters.{parameters_in, unset}
use Rattle.gql_expr_checks.specs.Refusals.{refusal_of_first, misuse_if}
use Rattle.gql_norm.specs.PatternRefusal.{refused_if}
use Rattle.gql_norm.specs.Termination.{empty_loop, unbounded}
use Rattle.gql_eval.specs.RowLists.{RowList}
use Rattle.gql_change.specs.AssignedGraph.{assigned}
use Rattle.gql_change.specs.Assignments.{set_assignments, remove_assignments}
use Rattle.gql_change.specs.Changing.{Changed, unless_fault, refused_by, unless_full, has_endpoints, changed_by_insert, changed_by_assignments, change_of}
use Rattle.gql_change.specs.Conflicts.{in_order, act_conflict, conflict_of, neighbours_conflict, conflict_among}
use Rattle.gql_change.specs.Deletion.{named_elements, edge_left, left_on, first_left, deleted}
use Rattle.gql_change.specs.Insertion.{rows_values, make_rows}
use Rattle.gql_change.specs.declared.assignment.Act.{Act}
use Rattle.gql_change.specs.declared.assignment.Act.TheVariants as act
use Rattle.gql_change.specs.declared.assignment.Assignment.{Assignment}
use Rattle.gql_linear.specs.QueryRun.{Working, WorkingTable, beginning, with_table, with_change, answer_table, changes_data, ThenRest, MayLeadTo, MayRun}
use Rattle.gql_scope.specs.StatementBounds.{bound_of_statement}
use Rattle.gql_scope.specs.WholePatterns.{over_clauses, unknown_names, wrong_kinds, joined_groups, joined_conditionals, of_pattern, open_references, misused_over, column_faults, unset_in_clause, name_refusal, repetition_refusal, use_refusal, clauses_refusal, whole_refusal}
use Rattle.gql_scope.specs.CatalogRefusals.{catalog_refusal}
use Rattle.gql_scope.specs.StaticRefusals.{value_refusal, session_refusal}
use Rattle.gql_type.specs.BodyFaults.{wrong_aliases, repeated_names}
use Rattle.gql_txn.specs.TxnData.{misfit_in}
use Rattle.gql_machine.specs.Outcomes.{is_store_refusal}
use Rattle.gql_machine.specs.SessionState.{SessionState, ParameterList, statement_graph}
use Rattle.gql_machine.specs.StateRefusals.{missing_if, missing_graph, missing_type, unless, missing_in_catalog, missing_in_session, missing_refusal, taken_if, graph_of_type, taken_in_catalog, taken_refusal, is_out_of_place, transaction_refusal}
use Rattle.gql_machine.specs.StatementRun.{StatementEnd, outcome_of_table, checked_end, query_end, value_end, session_end, transaction_end, MayExecute, bound_refusal, first_refusal, RefusedOrExecuted, StatementMayRun}

abbrev is_store : Refusal → Bool
is_store refusal.Store = true
is_store _ = false

-- a refusal that may be there
abbrev told : Option Refusal → Bool
told None = false
told (Some r) = is_store r

either_not : (a b : Option Refusal) → told a ≡ false → told b ≡ false → told (option_or a b) ≡ false
either_not None b h k = k
either_not (Some r) b h k = h

if_not : (b : Bool) (x y : Option Refusal) → told x ≡ false → told y ≡ false → told (if b then x else y) ≡ false
if_not true x y h k = h
if_not false x y h k = k

mapped_not : {A : Type 0} (f : A → Refusal) → ((x : A) → is_store (f x) ≡ false) → (o : Option A) → told (option_map f o) ≡ false
mapped_not f h None = refl
mapped_not f h (Some x) = h x

first_not : {A : Type 0} (f : A → Refusal) → ((x : A) → is_store (f x) ≡ false) → (xs : List A) → told (refusal_of_first f xs) ≡ false
first_not f h [] = refl
first_not f h (x ∷ xs) = h x

misuse_not : (b : Bool) → told (misuse_if b) ≡ false
misuse_not true = refl
misuse_not false = refl

refused_not : (r : Refusal) (b : Bool) → is_store r ≡ false → told (refused_if r b) ≡ false
refused_not r true h = h
refused_not r false h = refl

-- Before a statement runs

missing_not : {X : Type 0} (name : List ℕ) (o : Option X) → told (missing_if name o) ≡ false
missing_not name None = refl
missing_not name (Some x) = refl

unless_not : (lenient : Bool) (r : Option Refusal) → told r ≡ false → told (unless lenient r) ≡ false
unless_not true r h = refl
unless_not false r h = h

taken_not : {X : Type 0} (lenient : Bool) (name : List ℕ) (o : Option X) → told (taken_if lenient name o) ≡ false
taken_not lenient name None = refl
taken_not lenient name (Some x) = unless_not lenient (Some (refusal.Exists name)) refl

module _ (s : SessionState) where
  missing_catalog_not : (t : CatalogStatement) → told (missing_in_catalog s.catalog t) ≡ false
  missing_catalog_not (catalog.CreateGraph lenient name kind.Any) = refl
  missing_catalog_not (catalog.CreateGraph lenient name (kind.Typed t)) = missing_not t _
  missing_catalog_not (catalog.DropGraph lenient name) = unless_not lenient (missing_graph s.catalog name) (missing_not name _)
  missing_catalog_not (catalog.CreateType lenient name body) = refl
  missing_catalog_not (catalog.DropType lenient name) = unless_not lenient (missing_type s.catalog name) (missing_not name _)

  missing_session_not : (t : SessionStatement) → told (missing_in_session s.catalog t) ≡ false
  missing_session_not (session.SetGraph name) = missing_not name _
  missing_session_not (session.SetValue p e) = refl
  missing_session_not session.Reset = refl
  missing_session_not session.Close = refl

  missing_refusal_not : (t : Statement) → told (missing_refusal s t) ≡ false
  missing_refusal_not (statement.Query q) = missing_not s.graph _
  missing_refusal_not (statement.Session t) = missing_session_not t
  missing_refusal_not (statement.Transaction t) = refl
  missing_refusal_not (statement.Catalog t) = missing_catalog_not t

  taken_catalog_not : (t : CatalogStatement) → told (taken_in_catalog s.catalog t) ≡ false
  taken_catalog_not (catalog.CreateGraph lenient name k) = taken_not lenient name _
  taken_catalog_not (catalog.DropGraph lenient name) = refl
  taken_catalog_not (catalog.CreateType lenient name body) = taken_not lenient name _
  taken_catalog_not (catalog.DropType lenient name) = mapped_not refusal.Exists (λ x. refl) (graph_of_type s.catalog name)

  taken_refusal_not : (t : Statement) → told (taken_refusal s t) ≡ false
  taken_refusal_not (statement.Query q) = refl
  taken_refusal_not (statement.Session t) = refl
  taken_refusal_not (statement.Transaction t) = refl
  taken_refusal_not (statement.Catalog t) = taken_catalog_not t

  transaction_refusal_not : (t : Statement) → told (transaction_refusal s t) ≡ false
  transaction_refusal_not t = if_not (is_out_of_place s.access t) (Some refusal.Transaction) None refl refl

module _ (params : ParameterList) where
  name_not : (cs : List Clause) → told (name_refusal cs) ≡ false
  name_not cs =
      let unknown = refusal_of_first refusal.Variable (over_clauses unknown_names [] cs) in
      let wrong = refusal_of_first refusal.Kind (over_clauses wrong_kinds [] cs) in
      let groups = refusal_of_first refusal.GroupJoin (over_clauses joined_groups [] cs) in
      let conditionals = refusal_of_first refusal.CondJoin (over_clauses joined_conditionals [] cs) in
      either_not unknown (option_or wrong (option_or groups conditionals)) (first_not refusal.Variable (λ x. refl) (over_clauses unknown_names [] cs))
      (either_not wrong (option_or groups conditionals) (first_not refusal.Kind (λ x. refl) (over_clauses wrong_kinds [] cs))
      (either_not groups conditionals (first_not refusal.GroupJoin (λ x. refl) (over_clauses joined_groups [] cs)) (first_not refusal.CondJoin (λ x. refl) (over_clauses joined_conditionals [] cs))))

  repetition_not : (cs : List Clause) → told (repetition_refusal cs) ≡ false
  repetition_not cs =
      let loops = refused_if refusal.EmptyLoop (list_any (of_pattern empty_loop) cs) in
      let ends = refused_if refusal.Unbounded (list_any (of_pattern unbounded) cs) in
      let references = refusal_of_first refusal.GroupRef (flat_map open_references cs) in
      either_not loops (option_or ends references) (refused_not refusal.EmptyLoop (list_any (of_pattern empty_loop) cs) refl)
      (either_not ends references (refused_not refusal.Unbounded (list_any (of_pattern unbounded) cs) refl) (first_not refusal.GroupRef (λ x. refl) (flat_map open_references cs)))

  use_not : (cs : List Clause) → told (use_refusal params cs) ≡ false
  use_not cs =
      let columns = refusal_of_first refusal.Column (over_clauses column_faults [] cs) in
      let unset = refusal_of_first refusal.Parameter (flat_map (unset_in_clause params) cs) in
      either_not (misuse_if (misused_over [] cs)) (option_or columns unset) (misuse_not (misused_over [] cs))
      (either_not columns unset (first_not refusal.Column (λ x. refl) (over_clauses column_faults [] cs)) (first_not refusal.Parameter (λ x. refl) (flat_map (unset_in_clause params) cs)))

  clauses_not : (cs : List Clause) → told (clauses_refusal params cs) ≡ false
  clauses_not cs =
      either_not (name_refusal cs) (option_or (repetition_refusal cs) (use_refusal params cs)) (name_not cs)
      (either_not (repetition_refusal cs) (use_refusal params cs) (repetition_not cs) (use_not cs))

  value_not : (e : Tree) → told (value_refusal params e) ≡ false
  value_not e =
      let missing = refusal_of_first refusal.Parameter (unset params (parameters_in e)) in
      let misuse = misuse_if (misused [] elsewhere e) in
      either_not (refusal_of_first refusal.Variable (unknown_in [] e)) (option_or misuse missing) (first_not refusal.Variable (λ x. refl) (unknown_in [] e))
      (either_not misuse missing (misuse_not (misused [] elsewhere e)) (first_not refusal.Parameter (λ x. refl) (unset params (parameters_in e))))

  session_not : (s : SessionStatement) → told (session_refusal params s) ≡ false
  session_not (session.SetValue p e) = value_not (tree_of e)
  session_not (session.SetGraph x) = refl
  session_not session.Reset = refl
  session_not session.Close = refl

  catalog_not : (s : CatalogStatement) → told (catalog_refusal s) ≡ false
  catalog_not (catalog.CreateType lenient name body) =
      let names = map column.Property (repeated_names body.elements) in
      either_not (refusal_of_first refusal.Variable (wrong_aliases body)) (refusal_of_first refusal.Column names) (first_not refusal.Variable (λ x. refl) (wrong_aliases body))
      (first_not refusal.Column (λ x. refl) names)
  catalog_not (catalog.CreateGraph lenient name k) = refl
  catalog_not (catalog.DropGraph lenient name) = refl
  catalog_not (catalog.DropType lenient name) = refl

  whole_not : (s : Statement) → told (whole_refusal params s) ≡ false
  whole_not (statement.Query q) = clauses_not q.clauses
  whole_not (statement.Session s) = session_not s
  whole_not (statement.Transaction t) = refl
  whole_not (statement.Catalog c) = catalog_not c

first_refusal_not : (s : SessionState) (t : Statement) → told (first_refusal s t) ≡ false
first_refusal_not s t =
    either_not (option_map refusal.Number (wide_number t)) _ (mapped_not refusal.Number (λ x. refl) (wide_number t))
    (either_not (bound_refusal t) _ (mapped_not (λ (n : ℤ). refusal.Bounds (signed_decimal n)) (λ n. refl) (bound_of_statement t))
    (either_not (missing_refusal s t) _ (missing_refusal_not s t)
    (either_not (taken_refusal s t) _ (taken_refusal_not s t) (either_not (whole_refusal s.parameters t) (transaction_refusal s t) (whole_not s.parameters t) (transaction_refusal_not s t)))))

-- What changes of data are refused with

abbrev changed_told : Result Changed Refusal → Bool
changed_told (Ok c) = false
changed_told (Err r) = is_store r

fault_not : {A : Type 0} (r : Result A DataFault) (f : A → Result Changed Refusal) → ((x : A) → changed_told (f x) ≡ false) → changed_told (unless_fault r f) ≡ false
fault_not (Ok x) f h = h x
fault_not (Err e) f h = refl

full_not : (r : Result Changed ElemKind) → changed_told (unless_full r) ≡ false
full_not (Ok c) = refl
full_not (Err k) = refl

by_not : (o : Option Refusal) (c : Changed) → told o ≡ false → changed_told (refused_by o c) ≡ false
by_not None c h = refl
by_not (Some r) c h = h

act_not : (e : Elem) (a b : Act) → told (act_conflict e a b) ≡ false
act_not e (act.Property x a) (act.Property y b) = if_not _ (Some (refusal.Conflict e x a b)) None refl refl
act_not e a b = refl

conflict_not : (a b : Assignment) → told (conflict_of a b) ≡ false
conflict_not a b = if_not _ (act_conflict a.target a.act b.act) None (act_not a.target a.act b.act) refl

neighbours_not : (xs : List Assignment) → told (neighbours_conflict xs) ≡ false
neighbours_not [] = refl
neighbours_not (a ∷ []) = refl
neighbours_not (a ∷ b ∷ bs) = either_not (conflict_of a b) (neighbours_conflict (b ∷ bs)) (conflict_not a b) (neighbours_not (b ∷ bs))

left_not : (n : NodeRecord) (o : Option EdgeRecord) → told (left_on n o) ≡ false
left_not n None = refl
left_not n (Some r) = refl

first_left_not : (d : Detachment) (es : List Elem) (g : PropertyGraph) (ns : List NodeRecord) → told (first_left d es g ns) ≡ false
first_left_not d es g [] = refl
first_left_not d es g (n ∷ ns) =
    if_not _ (option_or (left_on n (edge_left d es g n)) (first_left d es g ns)) (first_left d es g ns)
    (either_not (left_on n (edge_left d es g n)) (first_left d es g ns) (left_not n (edge_left d es g n)) (first_left_not d es g ns)) (first_left_not d es g ns)

changed_if_not : (b : Bool) (x y : Result Changed Refusal) → changed_told x ≡ false → changed_told y ≡ false → changed_told (if b then x else y) ≡ false
changed_if_not true x y h k = h
changed_if_not false x y h k = k

module _ (g : PropertyGraph) (params : ParameterList) (columns : ColumnList) (rows : RowList) where
  assignments_not : (given : Result (List Assignment) DataFault) → changed_told (changed_by_assignments g params columns rows given) ≡ false
  assignments_not given = fault_not given _ (λ list. by_not (conflict_among list) (assigned list g, rows) (neighbours_not (in_order list)))

  change_not : (c : ChangeClause) → changed_told (change_of g params columns rows c) ≡ false
  change_not (change.Insert ps) =
      changed_if_not (has_endpoints columns rows ps) (changed_by_insert g params columns rows ps) (Err (refusal.Fault fault.WrongKind))
      (fault_not (rows_values g params columns ps rows) _ (λ values. full_not (make_rows columns ps g rows values))) refl
  change_not (change.Set is) = assignments_not (set_assignments g params columns is rows)
  change_not (change.Remove is) = assignments_not (remove_assignments g params columns is rows)
  change_not (change.Delete d names) =
      let es = named_elements columns names rows in
      by_not (first_left d es g g.nodes) (deleted d es g, rows) (first_left_not d es g g.nodes)

-- What a query is refused with

abbrev result_told : Result Working Refusal → Bool
result_told (Ok t) = false
result_told (Err r) = is_store r

table_not : (g : PropertyGraph) (r : Result WorkingTable DataFault) → result_told (with_table g r) ≡ false
table_not g (Ok t) = refl
table_not g (Err f) = refl

with_change_not : (columns : ColumnList) (r : Result Changed Refusal) → changed_told r ≡ false → result_told (with_change columns r) ≡ false
with_change_not columns (Ok c) h = refl
with_change_not columns (Err r) h = h

module _ (params : ParameterList) where
  lead_not : (t : Working) (c : Clause) (r : Result Working Refusal) → MayLeadTo params t c r → result_told r ≡ false
  lead_not t (clause.Match m) r h = ap result_told h.2 ∙ table_not t.graph h.0
  lead_not t (clause.Change c) r h = ap result_told h ∙ with_change_not _ _ (change_not t.graph params t.columns t.rows c)
  lead_not t (clause.Let x) r h = ap result_told h ∙ table_not t.graph _
  lead_not t (clause.Filter x) r h = ap result_told h ∙ table_not t.graph _
  lead_not t (clause.For x) r h = ap result_told h ∙ table_not t.graph _
  lead_not t (clause.Page x) r h = ap result_told h ∙ table_not t.graph _
  lead_not t (clause.Return x) r h = ap result_told h ∙ table_not t.graph _

  run_not : (t : Working) (cs : List Clause) (r : Result Working Refusal) → MayRun params t cs r → result_told r ≡ false
  run_not t [] r h = ap result_told h
  run_not t (c ∷ cs) r h = go h.0 (lead_not t c h.0 h.1) (λ u k. run_not u cs r k) h.2
    where
      go : (b : Result Working Refusal) → result_told b ≡ false → ((u : Working) → MayRun params u cs r → result_told r ≡ false) → ThenRest (λ u. MayRun params u cs r) r b → result_told r ≡ false
      go (Ok u) here more rest = more u rest
      go (Err e) here more rest = ap result_told rest ∙ here

-- What a statement is refused with

abbrev ends_told : StatementEnd → Bool
ends_told e = is_store_refusal e.outcome

of_refusal : (r : Refusal) → is_store r ≡ false → is_store_refusal (outcome.Refused r) ≡ false
of_refusal refusal.Store h = h
of_refusal r h = refl

of_table : (t : Option Table) → is_store_refusal (outcome_of_table t) ≡ false
of_table None = refl
of_table (Some t) = refl

checked_not : (s : SessionState) (q : Query) (t : Working) (m : Option Elem) → ends_told (checked_end s q t m) ≡ false
checked_not s q t (Some m) = refl
checked_not s q t None = of_table (answer_table q t)

end_if_not : (b : Bool) (d e : StatementEnd) → ends_told d ≡ false → ends_told e ≡ false → ends_told (if b then d else e) ≡ false
end_if_not true d e h k = h
end_if_not false d e h k = k

query_not : (s : SessionState) (q : Query) (r : Result Working Refusal) → result_told r ≡ false → ends_told (query_end s q r) ≡ false
query_not s q (Ok t) h =
    end_if_not (changes_data q) (checked_end s q t (misfit_in s.catalog s.graph t.graph)) (record { outcome = outcome_of_table (answer_table q t); after = s })
    (checked_not s q t (misfit_in s.catalog s.graph t.graph)) (of_table (answer_table q t))
query_not s q (Err r) h = of_refusal r h

value_end_not : (s : SessionState) (p : List ℕ) (r : Result Datum DataFault) → ends_told (value_end s p r) ≡ false
value_end_not s p (Ok d) = refl
value_end_not s p (Err f) = refl

session_end_not : (s : SessionState) (t : SessionStatement) → ends_told (session_end s t) ≡ false
session_end_not s (session.SetValue p e) = value_end_not s p (value_of (statement_graph s) s.parameters [] (tree_of e))
session_end_not s (session.SetGraph x) = refl
session_end_not s session.Reset = refl
session_end_not s session.Close = refl

transaction_end_not : (s : SessionState) (t : TransactionStatement) → ends_told (transaction_end s t) ≡ false
transaction_end_not s (transaction.Start m) = refl
transaction_end_not s transaction.Commit = refl
transaction_end_not s transaction.Rollback = refl

execution_not : (s : SessionState) (t : Statement) (e : StatementEnd) → MayExecute s t e → ends_told e ≡ false
execution_not s (statement.Query q) e h = ap ends_told h.ends ∙ query_not s q h.result (run_not s.parameters (beginning (statement_graph s)) q.clauses h.result h.runs)
execution_not s (statement.Session t) e h = ap ends_told h ∙ session_end_not s t
execution_not s (statement.Transaction t) e h = ap ends_told h ∙ transaction_end_not s t
execution_not s (statement.Catalog c) e h = ap ends_told h

decided_not : (s : SessionState) (t : Statement) (r : Option Refusal) (e : StatementEnd) → told r ≡ false → RefusedOrExecuted s t r e → ends_told e ≡ false
decided_not s t (Some r) e other h = ap ends_told h ∙ of_refusal r other
decided_not s t None e other h = execution_not s t e h

-- no statement comes to E22 before its commit point
pub not_by_store : (s : SessionState) (t : Statement) (e : StatementEnd) → StatementMayRun s t e → is_store_refusal e.outcome ≡ false
not_by_store s t e h = decided_not s t (first_refusal s t) e (first_refusal_not s t) h
