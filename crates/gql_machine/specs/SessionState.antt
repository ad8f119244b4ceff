-- The state of a session between two statements.
use Rattle.std.specs.Prelude.{ℕ, Bool, false, true, not, List, [], ◌∷◌, ◌++◌, filter, Option, Some, None, codes}
use Rattle.gql_ast.specs.declared.statement.AccessMode.{AccessMode}
use Rattle.gql_values3.specs.Datum.{Datum}
use Rattle.gql_values3.specs.Texts.{same_text}
use Rattle.gql_values3.specs.PropertyGraph.{PropertyGraph}
use Rattle.gql_graph.specs.Catalog.{CatalogData, graph_of, replaced, empty_graph}

-- parameters by name, each once
abbrev pub ParameterList : Type 0
ParameterList = List (List ℕ × Datum)

-- the catalog that statements see, the one that is kept, the transaction that is open, if one is, the name of the current graph, the
-- parameters, and whether SESSION CLOSE was answered
pub record SessionState : Type 0 where
  pub catalog : CatalogData
  pub kept : CatalogData
  pub access : Option AccessMode
  pub graph : List ℕ
  pub parameters : ParameterList
  pub is_closed : Bool

-- the name of the graph that is current at the start
abbrev pub home : List ℕ
home = codes "home"

-- at the start both catalogs are one, no transaction is open, and no parameter is set
abbrev pub starting : CatalogData → SessionState
starting c = record { catalog = c; kept = c; access = None; graph = home; parameters = []; is_closed = false }

-- the state with other parameters
abbrev pub with_parameters : SessionState → ParameterList → SessionState
with_parameters s ps = record s { parameters = ps }

-- with another catalog for statements to see; the kept one stays
abbrev pub with_catalog : SessionState → CatalogData → SessionState
with_catalog s c = record s { catalog = c }

-- with this transaction open, or none
abbrev pub with_open : SessionState → Option AccessMode → SessionState
with_open s t = record s { access = t }

-- with another current graph, by its name
abbrev pub with_current : SessionState → List ℕ → SessionState
with_current s name = record s { graph = name }

-- another graph in the place of the current one
abbrev pub with_graph : SessionState → PropertyGraph → SessionState
with_graph s g = with_catalog s (replaced s.graph g s.catalog)

-- the catalog is the kept one again, and no transaction is open
abbrev pub rolled_back : SessionState → SessionState
rolled_back s = record s { catalog = s.kept; access = None }

-- behind SESSION CLOSE: an open transaction is rolled back
abbrev pub closed : SessionState → SessionState
closed s = record (rolled_back s) { is_closed = true }

-- what stands at the start, but for the catalogs and the transaction
abbrev pub reset : SessionState → SessionState
reset s = record s { graph = home; parameters = [] }

-- the parameters where this one has that value; an older value of it is gone
abbrev pub set_parameter : ParameterList → List ℕ → Datum → ParameterList
set_parameter ps p d = filter (λ (q : List ℕ × Datum). not (same_text p q.0)) ps ++ (p, d) ∷ []

-- the current graph, where it is there
abbrev pub current_graph : SessionState → Option PropertyGraph
current_graph s = graph_of s.catalog s.graph

-- the graph that expressions are evaluated on: where there is none, an empty one, as no name stands for an element then
abbrev pub graph_or_empty : Option PropertyGraph → PropertyGraph
graph_or_empty None = empty_graph
graph_or_empty (Some g) = g

-- the graph over which statements are evaluated
abbrev pub statement_graph : SessionState → PropertyGraph
statement_graph s = graph_or_empty (current_graph s)
