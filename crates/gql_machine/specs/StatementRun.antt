-- What may come of a statement before anything is kept of it: its outcome, and the state behind it. A query in which a selector leaves
-- a choice may come to several results, so this is a relation; every other statement comes to one.
--
-- A statement is refused with the first static refusal in the order of their codes: a number literal beyond 64 bits (E04), a bound
-- of a pattern that is at fault (E05), what isn't there (E06), what is there already (E07), then those of names and patterns (E08 to
-- E16, E23), and what the open transaction does not allow (E17). Otherwise it runs. A refused statement leaves the state as it was.
use Rattle.std.specs.Prelude.{◌≡◌, ℕ, ℤ, List, [], Option, Some, None, is_some, option_map, Result, Ok, Err, if◌then◌else◌}
use Rattle.std.specs.Fmt.{signed_decimal}
use Rattle.std.specs.Option.{option_or}
use Rattle.gql_values3.specs.Datum.{Datum}
use Rattle.gql_values3.specs.declared.element.Elem.{Elem}
use Rattle.gql_values3.specs.declared.table.Table.{Table}
use Rattle.gql_ast.specs.Meaning.{tree_of}
use Rattle.gql_ast.specs.Evaluation.{value_of}
use Rattle.gql_ast.specs.NumberLiterals.{wide_number}
use Rattle.gql_ast.specs.declared.clause.Query.{Query}
use Rattle.gql_ast.specs.declared.fault.DataFault.{DataFault}
use Rattle.gql_ast.specs.declared.refusal.Outcome.{Outcome}
use Rattle.gql_ast.specs.declared.refusal.Outcome.TheVariants as outcome
use Rattle.gql_ast.specs.declared.refusal.Refusal.{Refusal}
use Rattle.gql_ast.specs.declared.refusal.Refusal.TheVariants as refusal
use Rattle.gql_ast.specs.declared.statement.GraphKind.{GraphKind}
use Rattle.gql_ast.specs.declared.statement.GraphKind.TheVariants as kind
use Rattle.gql_ast.specs.declared.statement.CatalogStatement.{CatalogStatement}
use Rattle.gql_ast.specs.declared.statement.CatalogStatement.TheVariants as catalog
use Rattle.gql_ast.specs.declared.statement.SessionStatement.{SessionStatement}
use Rattle.gql_ast.specs.declared.statement.SessionStatement.TheVariants as session
use Rattle.gql_ast.specs.declared.statement.TransactionStatement.{TransactionStatement}
use Rattle.gql_ast.specs.declared.statement.TransactionStatement.TheVariants as transaction
use Rattle.gql_ast.specs.declared.statement.Statement.{Statement}
use Rattle.gql_ast.specs.declared.statement.Statement.TheVariants as statement
use Rattle.gql_graph.specs.Catalog as in_catalog
use Rattle.gql_graph.specs.Catalog.{CatalogData, held_in, type_in, without_graph, with_type, without_type}
use Rattle.gql_linear.specs.QueryRun.{Working, answer_table, changes_data, QueryMayRun}
use Rattle.gql_scope.specs.StatementBounds.{bound_of_statement}
use Rattle.gql_scope.specs.WholePatterns.{whole_refusal}
use Rattle.gql_txn.specs.TxnData.{misfit_in, new_graph}
use Rattle.gql_type.specs.BodyMeaning.{graph_type_of}
use Rattle.gql_machine.specs.SessionState.{SessionState, with_parameters, with_catalog, with_open, with_current, with_graph, rolled_back, closed, reset, set_parameter, statement_graph}
use Rattle.gql_machine.specs.StateRefusals.{missing_refusal, taken_refusal, transaction_refusal}

-- the end of a statement: its outcome, and the state behind it
pub record StatementEnd : Type 0 where
  pub outcome : Outcome
  pub after : SessionState

-- a refused statement leaves the state as it was
abbrev pub refused_with : SessionState → Refusal → StatementEnd
refused_with before r = record { outcome = outcome.Refused r; after = before }

-- a statement that is answered by `ok`, with the state behind it
abbrev pub done_with : SessionState → StatementEnd
done_with after = record { outcome = outcome.Done; after = after }

-- ---- queries

-- a query's table, or ok where it has none
abbrev pub outcome_of_table : Option Table → Outcome
outcome_of_table None = outcome.Done
outcome_of_table (Some t) = outcome.Table t

-- E19: the graph behind the query has an element that fits no type of the graph's type; else it is the current one from then on
abbrev pub checked_end : SessionState → Query → Working → Option Elem → StatementEnd
checked_end before q t (Some misfit) = refused_with before (refusal.Misfit misfit)
checked_end before q t None = record { outcome = outcome_of_table (answer_table q t); after = with_graph before t.graph }

-- a query that changes no data leaves the state as it was
abbrev pub answered_end : SessionState → Query → Working → StatementEnd
answered_end before q t =
    if changes_data q then checked_end before q t (misfit_in before.catalog before.graph t.graph)
    else record { outcome = outcome_of_table (answer_table q t); after = before }

-- the end of a query that came to this result
abbrev pub query_end : SessionState → Query → Result Working Refusal → StatementEnd
query_end before q (Ok t) = answered_end before q t
query_end before q (Err r) = refused_with before r

-- a query may end so: by a result that it may come to on the graph and with the parameters before it
pub record QueryMayEnd (before : SessionState) (q : Query) (end : StatementEnd) : Type 0 where
  pub result : Result Working Refusal
  pub runs : QueryMayRun (statement_graph before) before.parameters q result
  pub ends : end ≡ query_end before q result

-- ---- other statements

-- SESSION SET VALUE: the parameter has the value, or the expression's fault is the answer
abbrev pub value_end : SessionState → List ℕ → Result Datum DataFault → StatementEnd
value_end before p (Ok d) = done_with (with_parameters before (set_parameter before.parameters p d))
value_end before p (Err f) = refused_with before (refusal.Fault f)

-- SESSION RESET makes home the current graph and forgets all parameters; SESSION CLOSE ends an open transaction as ROLLBACK does
abbrev pub session_end : SessionState → SessionStatement → StatementEnd
session_end before (session.SetGraph x) = done_with (with_current before x)
session_end before (session.SetValue p e) = value_end before p (value_of (statement_graph before) before.parameters [] (tree_of e))
session_end before session.Reset = done_with (reset before)
session_end before session.Close = done_with (closed before)

-- COMMIT ends the transaction; that its changes are kept is said of every commit point
abbrev pub transaction_end : SessionState → TransactionStatement → StatementEnd
transaction_end before (transaction.Start mode) = done_with (with_open before (Some mode))
transaction_end before transaction.Commit = done_with (with_open before None)
transaction_end before transaction.Rollback = done_with (rolled_back before)

-- the name of the type of a new graph
abbrev pub type_name : GraphKind → Option (List ℕ)
type_name kind.Any = None
type_name (kind.Typed name) = Some name

-- where a name of CREATE stands already, all stays; what DROP names may be missing
abbrev pub catalog_after : CatalogData → CatalogStatement → CatalogData
catalog_after c (catalog.CreateGraph lenient name k) = if is_some (held_in c name) then c else in_catalog.with_graph name (new_graph (type_name k)) c
catalog_after c (catalog.DropGraph lenient name) = without_graph name c
catalog_after c (catalog.CreateType lenient name body) = if is_some (type_in c name) then c else with_type name (graph_type_of body) c
catalog_after c (catalog.DropType lenient name) = without_type name c

-- the statement is executed
abbrev pub MayExecute : SessionState → Statement → StatementEnd → Type 0
MayExecute before (statement.Query q) end = QueryMayEnd before q end
MayExecute before (statement.Session s) end = end ≡ session_end before s
MayExecute before (statement.Transaction t) end = end ≡ transaction_end before t
MayExecute before (statement.Catalog c) end = end ≡ done_with (with_catalog before (catalog_after before.catalog c))

-- ---- static refusals

-- E05: the number at fault, in decimal
abbrev pub bound_refusal : Statement → Option Refusal
bound_refusal s = option_map (λ (n : ℤ). refusal.Bounds (signed_decimal n)) (bound_of_statement s)

-- the first refusal that stands before the statement runs
abbrev pub first_refusal : SessionState → Statement → Option Refusal
first_refusal before s =
    option_or (option_map refusal.Number (wide_number s))
    (option_or (bound_refusal s)
    (option_or (missing_refusal before s)
    (option_or (taken_refusal before s)
    (option_or (whole_refusal before.parameters s) (transaction_refusal before s)))))

-- a statement with a first static refusal ends in it, and one without is executed
abbrev pub RefusedOrExecuted : SessionState → Statement → Option Refusal → StatementEnd → Type 0
RefusedOrExecuted before s (Some r) end = end ≡ refused_with before r
RefusedOrExecuted before s None end = MayExecute before s end

-- the statement may end so
abbrev pub StatementMayRun : SessionState → Statement → StatementEnd → Type 0
StatementMayRun before s end = RefusedOrExecuted before s (first_refusal before s) end
