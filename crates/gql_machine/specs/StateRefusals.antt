-- The static refusals that look at the state: what isn't there (E06), what is there already (E07), and what the open transaction does
-- not allow (E17).
use Rattle.std.specs.Prelude.{ℕ, Bool, true, false, not, ◌&&◌, is_some, if◌then◌else◌, List, Option, Some, None, option_map, find}
use Rattle.gql_ast.specs.declared.refusal.Refusal.{Refusal}
use Rattle.gql_ast.specs.declared.refusal.Refusal.TheVariants as refusal
use Rattle.gql_ast.specs.declared.statement.AccessMode.{AccessMode}
use Rattle.gql_ast.specs.declared.statement.AccessMode.TheVariants as mode
use Rattle.gql_ast.specs.declared.statement.TransactionStatement.TheVariants as transaction
use Rattle.gql_ast.specs.declared.statement.GraphKind.{GraphKind}
use Rattle.gql_ast.specs.declared.statement.GraphKind.TheVariants as kind
use Rattle.gql_ast.specs.declared.statement.CatalogStatement.{CatalogStatement}
use Rattle.gql_ast.specs.declared.statement.CatalogStatement.TheVariants as catalog
use Rattle.gql_ast.specs.declared.statement.SessionStatement.{SessionStatement}
use Rattle.gql_ast.specs.declared.statement.SessionStatement.TheVariants as session
use Rattle.gql_ast.specs.declared.statement.Statement.{Statement}
use Rattle.gql_ast.specs.declared.statement.Statement.TheVariants as statement
use Rattle.gql_graph.specs.Catalog.{CatalogGraph, CatalogData, held_in, type_in}
use Rattle.gql_linear.specs.QueryRun.{changes_data}
use Rattle.gql_txn.specs.Edits.{is_named}
use Rattle.gql_machine.specs.SessionState.{SessionState}

-- ---- E06 NO_SUCH

-- it has to be there under this name
abbrev pub missing_if : {X : Type 0} → List ℕ → Option X → Option Refusal
missing_if name None = Some (refusal.NoSuch name)
missing_if name (Some x) = None

-- the graph of this name
abbrev pub missing_graph : CatalogData → List ℕ → Option Refusal
missing_graph c name = missing_if name (held_in c name)

-- the graph type of this name
abbrev pub missing_type : CatalogData → List ℕ → Option Refusal
missing_type c name = missing_if name (type_in c name)

-- the type of a new graph
abbrev pub missing_kind : CatalogData → GraphKind → Option Refusal
missing_kind c kind.Any = None
missing_kind c (kind.Typed name) = missing_type c name

-- unless IF EXISTS stands there
abbrev pub unless : Bool → Option Refusal → Option Refusal
unless lenient r = if lenient then None else r

-- DROP needs the graph or type that it names, unless IF EXISTS stands there; a new graph needs its type, also with IF NOT EXISTS
abbrev pub missing_in_catalog : CatalogData → CatalogStatement → Option Refusal
missing_in_catalog c (catalog.CreateGraph lenient name kind) = missing_kind c kind
missing_in_catalog c (catalog.DropGraph lenient name) = unless lenient (missing_graph c name)
missing_in_catalog c (catalog.CreateType lenient name body) = None
missing_in_catalog c (catalog.DropType lenient name) = unless lenient (missing_type c name)

-- SESSION SET GRAPH needs the graph
abbrev pub missing_in_session : CatalogData → SessionStatement → Option Refusal
missing_in_session c (session.SetGraph name) = missing_graph c name
missing_in_session c _ = None

-- a query needs the current graph
abbrev pub missing_refusal : SessionState → Statement → Option Refusal
missing_refusal s (statement.Query q) = missing_graph s.catalog s.graph
missing_refusal s (statement.Session t) = missing_in_session s.catalog t
missing_refusal s (statement.Transaction t) = None
missing_refusal s (statement.Catalog t) = missing_in_catalog s.catalog t

-- ---- E07 EXISTS

-- it may not be there under this name, unless IF NOT EXISTS stands there
abbrev pub taken_if : {X : Type 0} → Bool → List ℕ → Option X → Option Refusal
taken_if lenient name None = None
taken_if lenient name (Some x) = unless lenient (Some (refusal.Exists name))

-- the graph's type has this name
abbrev pub has_type : List ℕ → CatalogGraph → Bool
has_type name g = is_named name g.kind

-- the least graph of the type, as graphs stand by ascending name
abbrev pub graph_of_type : CatalogData → List ℕ → Option (List ℕ)
graph_of_type c name = option_map (λ (p : List ℕ × CatalogGraph). p.0) (find (λ (p : List ℕ × CatalogGraph). has_type name p.1) c.graphs)

-- a new name may not be there, and a type that is dropped may not be that of a graph
abbrev pub taken_in_catalog : CatalogData → CatalogStatement → Option Refusal
taken_in_catalog c (catalog.CreateGraph lenient name kind) = taken_if lenient name (held_in c name)
taken_in_catalog c (catalog.DropGraph lenient name) = None
taken_in_catalog c (catalog.CreateType lenient name body) = taken_if lenient name (type_in c name)
taken_in_catalog c (catalog.DropType lenient name) = option_map refusal.Exists (graph_of_type c name)

-- only a statement about graphs and graph types can meet one
abbrev pub taken_refusal : SessionState → Statement → Option Refusal
taken_refusal s (statement.Catalog t) = taken_in_catalog s.catalog t
taken_refusal s _ = None

-- ---- E17 TRANSACTION

-- a transaction is open, and it is READ ONLY
abbrev pub is_read_only : Option AccessMode → Bool
is_read_only (Some mode.ReadOnly) = true
is_read_only _ = false

-- START where a transaction is open, COMMIT and ROLLBACK where none is, and what changes something in a READ ONLY transaction
abbrev pub is_out_of_place : Option AccessMode → Statement → Bool
is_out_of_place access (statement.Query q) = changes_data q && is_read_only access
is_out_of_place access (statement.Session t) = false
is_out_of_place access (statement.Transaction (transaction.Start m)) = is_some access
is_out_of_place access (statement.Transaction transaction.Commit) = not (is_some access)
is_out_of_place access (statement.Transaction transaction.Rollback) = not (is_some access)
is_out_of_place access (statement.Catalog t) = is_read_only access

-- E17 is the refusal of what is out of place
abbrev pub transaction_refusal : SessionState → Statement → Option Refusal
transaction_refusal s t = if is_out_of_place s.access t then Some refusal.Transaction else None
