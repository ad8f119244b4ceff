-- When a graph may not take the place of another, and when a graph type may go.
use Rattle.std.specs.Prelude.{◌≡◌, ℕ, Bool, false, not, List, Option, Some, None}
use Rattle.std.specs.List.{list_all}
use Rattle.gql_values3.specs.PropertyGraph.{PropertyGraph}
use Rattle.gql_values3.specs.Texts.{same_text}
use Rattle.gql_graph.specs.Catalog.{CatalogGraph, CatalogData}
use Rattle.gql_txn.specs.TxnData.{misfit_in}
use Rattle.gql_txn.specs.declared.edit.EditFault.{EditFault}
use Rattle.gql_txn.specs.declared.edit.EditFault.TheVariants as fault

-- a misfit that is told is the first one
abbrev pub IsMisfit : CatalogData → List ℕ → PropertyGraph → EditFault → Type 0
IsMisfit c name g (fault.Misfit m) = misfit_in c name g ≡ Some m.elem
IsMisfit c name g fault.OutOfMemory = Unit {0}

-- this is the name
abbrev pub is_named : List ℕ → Option (List ℕ) → Bool
is_named name None = false
is_named name (Some other) = same_text name other

-- no graph has the type of this name
abbrev pub is_unused : List ℕ → CatalogData → Bool
is_unused name c = list_all (λ (p : List ℕ × CatalogGraph). not (is_named name p.1.kind)) c.graphs
