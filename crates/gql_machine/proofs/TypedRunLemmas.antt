-- Each graph that has a type conforms to it behind each step of the session machine.
use Rattle.std.proofs.Common.{◌≡◌, ℕ, Bool, true, false, List, [], Option, Some, None, Result, Ok, Err, refl, ap, sym, ◌∙◌, inl, inr, subst}
use Rattle.std.specs.Prelude.{if◌then◌else◌, is_some, option_map, unwrap_or}
use Rattle.gql_values3.specs.Datum.{Datum}
use Rattle.gql_values3.specs.declared.element.Elem.{Elem}
use Rattle.gql_ast.specs.Meaning.{tree_of}
use Rattle.gql_ast.specs.Evaluation.{value_of}
use Rattle.gql_ast.specs.declared.clause.Query.{Query}
use Rattle.gql_ast.specs.declared.fault.DataFault.{DataFault}
use Rattle.gql_ast.specs.declared.refusal.Outcome.{Outcome}
use Rattle.gql_ast.specs.declared.refusal.Refusal.{Refusal}
use Rattle.gql_ast.specs.declared.statement.CatalogStatement.{CatalogStatement}
use Rattle.gql_ast.specs.declared.statement.CatalogStatement.TheVariants as catalog
use Rattle.gql_ast.specs.declared.statement.GraphKind.{GraphKind}
use Rattle.gql_ast.specs.declared.statement.GraphKind.TheVariants as kind
use Rattle.gql_ast.specs.declared.statement.SessionStatement.{SessionStatement}
use Rattle.gql_ast.specs.declared.statement.SessionStatement.TheVariants as session
use Rattle.gql_ast.specs.declared.statement.Statement.{Statement}
use Rattle.gql_ast.specs.declared.statement.Statement.TheVariants as statement
use Rattle.gql_ast.specs.declared.statement.TransactionStatement.{TransactionStatement}
use Rattle.gql_ast.specs.declared.statement.TransactionStatement.TheVariants as transaction
use Rattle.gql_graph.specs.Catalog.{CatalogData, held_in, type_in, with_graph, with_type}
use Rattle.gql_linear.specs.QueryRun.{Working, answer_table, changes_data}
use Rattle.gql_txn.specs.TxnData.{misfit_in, new_graph}
use Rattle.gql_type.specs.BodyMeaning.{graph_type_of}
use Rattle.gql_machine.specs.Reading.{Reading, blank, bad, deep, unread, read}
use Rattle.gql_machine.specs.SessionState.{SessionState, statement_graph}
use Rattle.gql_machine.specs.StateRefusals.{missing_in_catalog, taken_in_catalog}
use Rattle.gql_machine.specs.StatementRun.{StatementEnd, outcome_of_table, checked_end, query_end, value_end, session_end, transaction_end, type_name, catalog_after, MayExecute, first_refusal, RefusedOrExecuted, StatementMayRun}
use Rattle.gql_machine.specs.SessionRun.{is_commit_point, SettlesAt, MayAnswer, RunsSession, no_pieces, one_more}
use Rattle.gql_machine.specs.TypedGraphs.{is_typed, IsTypedState}
use Rattle.gql_machine.specs.Machinery.Allowed.{IsAllowed}
use Rattle.gql_machine.proofs.AllowedLemmas.{allowed}
use Rattle.gql_machine.proofs.NameLemmas.{is_there, not_there}
use Rattle.gql_machine.proofs.TypedLemmas.{typed, is_typed-from, typed_with_graph, typed_without_graph, typed_with_type, typed_without_type, typed_replaced}

-- Statements about graphs and graph types

unmapped : {A B : Type 0} (f : A → B) (o : Option A) → option_map f o ≡ None → o ≡ None
unmapped f None h = refl
unmapped f (Some x) h = absurd (cc)

-- a name of CREATE stands, or the catalog has one thing more
made_or_same : (b : Bool) (c d : CatalogData) → is_typed c ≡ true → (b ≡ false → is_typed d ≡ true) → is_typed (if b then c else d) ≡ true
made_or_same true c d h more = h
made_or_same false c d h more = more refl

kind_there : (c : CatalogData) (k : GraphKind) → (lenient : Bool) (name : List ℕ) → missing_in_catalog c (catalog.CreateGraph lenient name k) ≡ None
    → (t : List ℕ) → type_name k ≡ Some t → is_some (type_in c t) ≡ true
kind_there c kind.Any lenient name h t is = absurd (cc)
kind_there c (kind.Typed x) lenient name h t is =
    let same : x ≡ t = ap (λ o. unwrap_or o x) is in
    ap (λ n. is_some (type_in c n)) (sym same) ∙ is_there x (type_in c x) h

pub catalog_typed : (c : CatalogData) (s : CatalogStatement) → missing_in_catalog c s ≡ None → taken_in_catalog c s ≡ None → is_typed c ≡ true → is_typed (catalog_after c s) ≡ true
catalog_typed c (catalog.CreateGraph lenient name k) missing taken h =
    made_or_same (is_some (held_in c name)) c (with_graph name (new_graph (type_name k)) c) h
    (λ none. is_typed-from _ (typed_with_graph c name (type_name k) (not_there (held_in c name) none) (kind_there c k lenient name missing) (typed c h)))
catalog_typed c (catalog.DropGraph lenient name) missing taken h = is_typed-from _ (typed_without_graph c name (typed c h))
catalog_typed c (catalog.CreateType lenient name body) missing taken h =
    made_or_same (is_some (type_in c name)) c (with_type name (graph_type_of body) c) h
    (λ none. is_typed-from _ (typed_with_type c name (graph_type_of body) (not_there (type_in c name) none) (typed c h)))
catalog_typed c (catalog.DropType lenient name) missing taken h = is_typed-from _ (typed_without_type c name (unmapped _ _ taken) (typed c h))

-- Statements

module _ (s : SessionState) (h : IsTypedState s) where
  checked_typed : (q : Query) (t : Working) (m : Option Elem) → misfit_in s.catalog s.graph t.graph ≡ m → IsTypedState (checked_end s q t m).after
  checked_typed q t (Some m) is = h
  checked_typed q t None is = (is_typed-from _ (typed_replaced s.catalog s.graph t.graph is (typed s.catalog h.0)), h.1)

  end_if : (b : Bool) (d e : StatementEnd) → IsTypedState d.after → IsTypedState e.after → IsTypedState (if b then d else e).after
  end_if true d e p q = p
  end_if false d e p q = q

  query_typed : (q : Query) (r : Result Working Refusal) → IsTypedState (query_end s q r).after
  query_typed q (Ok t) =
      end_if (changes_data q) (checked_end s q t (misfit_in s.catalog s.graph t.graph)) (record { outcome = outcome_of_table (answer_table q t); after = s })
      (checked_typed q t (misfit_in s.catalog s.graph t.graph) refl) h
  query_typed q (Err r) = h

  value_typed : (p : List ℕ) (r : Result Datum DataFault) → IsTypedState (value_end s p r).after
  value_typed p (Ok d) = h
  value_typed p (Err f) = h

  session_typed : (t : SessionStatement) → IsTypedState (session_end s t).after
  session_typed (session.SetValue p e) = value_typed p (value_of (statement_graph s) s.parameters [] (tree_of e))
  session_typed (session.SetGraph x) = h
  session_typed session.Reset = h
  session_typed session.Close = (h.1, h.1)

  transaction_typed : (t : TransactionStatement) → IsTypedState (transaction_end s t).after
  transaction_typed (transaction.Start m) = h
  transaction_typed transaction.Commit = h
  transaction_typed transaction.Rollback = (h.1, h.1)

  as_that : (d e : StatementEnd) → d ≡ e → IsTypedState e.after → IsTypedState d.after
  as_that d e p k = let P : StatementEnd → Type 0 = λ x. IsTypedState x.after in subst P (sym p) k

  execution_typed : (t : Statement) (e : StatementEnd) → IsAllowed s t → MayExecute s t e → IsTypedState e.after
  execution_typed (statement.Query q) e a k = as_that e (query_end s q k.result) k.ends (query_typed q k.result)
  execution_typed (statement.Session t) e a k = as_that e (session_end s t) k (session_typed t)
  execution_typed (statement.Transaction t) e a k = as_that e (transaction_end s t) k (transaction_typed t)
  execution_typed (statement.Catalog c) e a k = as_that e _ k (catalog_typed s.catalog c a.missing a.taken h.0, h.1)

  decided_typed : (t : Statement) (r : Option Refusal) (e : StatementEnd) → first_refusal s t ≡ r → RefusedOrExecuted s t r e → IsTypedState e.after
  decided_typed t (Some r) e is k = as_that e _ k h
  decided_typed t None e is k = execution_typed t e (allowed s t is) k

  pub statement_typed : (t : Statement) (e : StatementEnd) → StatementMayRun s t e → IsTypedState e.after
  statement_typed t e k = decided_typed t (first_refusal s t) e refl k

-- Commit points and pieces

at_state : (s t : SessionState) → s ≡ t → IsTypedState t → IsTypedState s
at_state s t p k = subst IsTypedState (sym p) k

settled_typed : (e : StatementEnd) (b : Bool) (o : Outcome) (s : SessionState) → SettlesAt b e o s → IsTypedState e.after
    → IsTypedState s
settled_typed e true o s (inl k) h = at_state s _ k.1 (h.0, h.0)
settled_typed e true o s (inr r) h = at_state s _ r.undone (h.1, h.1)
settled_typed e false o s k h = at_state s _ k.1 h

answer_typed : (s t : SessionState) (r : Reading) (made : List Outcome) → IsTypedState s → MayAnswer s r made t → IsTypedState t
answer_typed s t blank made h k = at_state t s k.1 h
answer_typed s t bad made h k = at_state t s k.1 h
answer_typed s t deep made h k = at_state t s k.1 h
answer_typed s t unread made h k = at_state t s k.1 h
answer_typed s t (read u) made h k = settled_typed k.end (is_commit_point k.end) k.answer t k.settles (statement_typed s h u k.end k.runs)

run_typed : {start end : SessionState} {ps : List (List ℕ)} {os : List Outcome} → RunsSession start ps os end → IsTypedState start → IsTypedState end
run_typed no_pieces h = h
run_typed (one_more {middle = m} {after = a} {made = made} runs step) h = answer_typed m a step.reading made (run_typed runs h) step.answers

pub runs_typed : (start end : SessionState) (pieces : List (List ℕ)) (outcomes : List Outcome) → IsTypedState start → RunsSession start pieces outcomes end → IsTypedState end
runs_typed start end pieces outcomes h runs = run_typed runs h
